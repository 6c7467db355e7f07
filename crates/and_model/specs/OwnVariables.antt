-- Clauses whose terms name no variables but the clause's own.
use Rattle.std.specs.Prelude.{ℕ, ◌<◌, ◌≡◌, List, [], ◌∷◌, All, flat_map}
use Rattle.and_model.specs.Terms.{Path, Term, variables_of}
use Rattle.and_model.specs.Programs.{Program, Clause, Item, call, equal, arithmetic, fail, is, compare, clause_at}

-- the terms of an item
abbrev pub terms_of_item : Item → List Term
terms_of_item (call g) = g ∷ []
terms_of_item (equal a b) = a ∷ b ∷ []
terms_of_item (arithmetic (is a b)) = a ∷ b ∷ []
terms_of_item (arithmetic (compare r a b)) = a ∷ b ∷ []
terms_of_item fail = []

-- the terms of a clause: its head, and those of its body
abbrev pub terms_of_clause : Clause → List Term
terms_of_clause k = k.head ∷ flat_map terms_of_item k.body

-- the variable is one of a clause's first n (in the terms of clauses variables have the empty path)
abbrev pub IsOwn : ℕ → Path × ℕ → Type 0
IsOwn n v = (v.0 ≡ []) × (v.1 < n)

-- so is each variable of the term
abbrev pub AreOwn : ℕ → Term → Type 0
AreOwn n t = All (IsOwn n) (variables_of t)

-- Each variable of a term of the clause is one of the clause's own.
abbrev pub HasOwnVariables : Clause → Type 0
HasOwnVariables k = All (AreOwn k.variables) (terms_of_clause k)

-- So it is for the query and for each clause.
abbrev pub HaveOwnVariables : Program → Type 0
HaveOwnVariables P = (c : ℕ) → HasOwnVariables (clause_at P c)
