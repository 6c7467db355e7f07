-- Bodies as they are written: what stands in the alternatives of a disjunction stands where the disjunction does. In a
-- program that runs a disjunction is a call of a predicate of its own, whose clauses are the alternatives.
use Rattle.std.specs.Prelude.{ℕ, suc, Bool, false, cond, nat_eq, List, [], ◌∷◌, ◌++◌, get_or}
use Rattle.std.specs.List.{flat_map}
use Rattle.and_model.specs.Terms.{Term, variable, number, compound, width}
use Rattle.and_model.specs.Lines.{Bytes}
use Rattle.and_model.specs.Programs.{Program, Clause, Item, call, equal, arithmetic, fail, clause_at}
use Rattle.and_model.specs.declared.numbers.ClauseNo.{ClauseNo}
use Rattle.and_program.specs.Shown.{argument_of, clauses_with}
use Rattle.and_lint.specs.Subterms.{subterms, terms_of}

-- The name of a disjunction's predicate begins with the byte FF, which no text can write.
abbrev pub begins_lifted : Bytes → Bool
begins_lifted [] = false
begins_lifted (b ∷ bs) = nat_eq b 255

-- the term has the name of a disjunction's predicate
abbrev pub is_lifted : Program → Term → Bool
is_lifted P (variable q k) = false
is_lifted P (number z) = false
is_lifted P (compound c ts) = begins_lifted (get_or P.names c [])

-- the numbers of the clauses that are of a term's predicate
abbrev pub clauses_of : Program → Term → List ClauseNo
clauses_of P (variable q k) = []
clauses_of P (number z) = []
clauses_of P (compound c ts) = clauses_with c (width ts) 1 P.clauses

-- What the items of clause c give, where clauses stand from number n on. The alternatives of a disjunction stand
-- behind the clause that it stands in, so each item may ask for what the clauses behind give.
abbrev pub given_by : {A : Type 0} → (of_item : (behind : ℕ → List A) → Item → List A) → (n : ℕ) → List Clause → (c : ℕ)
    → List A
given_by of_item n [] c = []
given_by of_item n (k ∷ ks) c = let behind = given_by of_item (suc n) ks in
    cond (nat_eq c n) (flat_map (of_item behind) k.body) (behind c)

-- an item itself, or the items of the alternatives of a disjunction
abbrev pub items_of : Program → (behind : ℕ → List Item) → Item → List Item
items_of P behind (call g) =
    cond (is_lifted P g) (flat_map (λ (d : ClauseNo). behind d.0) (clauses_of P g)) (call g ∷ [])
items_of P behind (equal a b) = equal a b ∷ []
items_of P behind (arithmetic a) = arithmetic a ∷ []
items_of P behind fail = fail ∷ []

-- the items of a clause in the order of the text
abbrev pub items_written : Program → (clause : ℕ) → List Item
items_written P c = given_by (items_of P) 0 (P.query ∷ P.clauses) c

-- the number of a variable
abbrev pub number_here : Term → List ℕ
number_here (variable q k) = k ∷ []
number_here (number z) = []
number_here (compound c ts) = []

-- the variables in these terms, each where it occurs
abbrev pub numbers_in : List Term → List ℕ
numbers_in ts = flat_map number_here (flat_map subterms ts)

-- the variable of a clause that variable k of an alternative is, by the call that the disjunction became
abbrev pub variable_for : (call : Term) → ℕ → List ℕ
variable_for g k = number_here (argument_of g k)

-- the variables of an item, each where it occurs, or those in the alternatives of a disjunction
abbrev pub variables_of_item : Program → (behind : ℕ → List ℕ) → Item → List ℕ
variables_of_item P behind (call g) = cond (is_lifted P g)
    (flat_map (λ (d : ClauseNo). flat_map (variable_for g) (behind d.0)) (clauses_of P g)) (numbers_in (g ∷ []))
variables_of_item P behind (equal a b) = numbers_in (terms_of (equal a b))
variables_of_item P behind (arithmetic a) = numbers_in (terms_of (arithmetic a))
variables_of_item P behind fail = []

-- the variables of a clause's body, each where it occurs in the text
abbrev pub variables_in_body : Program → (clause : ℕ) → List ℕ
variables_in_body P c = given_by (variables_of_item P) 0 (P.query ∷ P.clauses) c

-- the variables of a clause, each where it occurs in the text
abbrev pub variables_written : Program → (clause : ℕ) → List ℕ
variables_written P c = numbers_in ((clause_at P c).head ∷ []) ++ variables_in_body P c
