-- Programs of pure clauses, and what they weigh (Lloyd, section 2; the weights are this project's own).
use Rattle.std.specs.Prelude.{ℕ, suc, ◌+◌, ◌≡◌, Bool, true, false, List, [], ◌∷◌, get_or, length, nat_eq, leb, ltb}
use Rattle.std.specs.Prelude.{◌&&◌, map}
use Rattle.and_model.specs.Terms.{Path, Term, Terms, variable, number, compound, none, more, framed}
use Rattle.and_model.specs.Arithmetic.{Relation}
use Rattle.and_model.specs.declared.builtins.TheConstants.{BUILT_IN}

-- the names that every table of names begins with
abbrev pub builtin_names : List (List ℕ)
builtin_names = map (λ name. name.1.now) BUILT_IN

-- the number of the name that stands k behind the first of a program's own names
abbrev pub own_name : ℕ → ℕ
own_name k = length builtin_names + k

-- A goal of arithmetic: `left is right`, or a comparison of two terms.
pub data Arithmetic : Type 0 where
  is : Term → Term → Arithmetic
  compare : Relation → Term → Term → Arithmetic

-- An item of a body.
pub data Item : Type 0 where
  call : Term → Item
  equal : Term → Term → Item
  arithmetic : Arithmetic → Item
  fail : Item

-- A clause. Its variables are numbered from 0 by first occurrence; `written` has their names as they were written,
-- and `line` is the line of its first token.
pub record Clause : Type 0 where
  pub head : Term
  pub body : List Item
  pub variables : ℕ
  pub written : List (List ℕ)
  pub line : ℕ

-- A program: its clauses in textual order, its one query (whose head is the atom `true`), and its names by their
-- numbers.
pub record Program : Type 0 where
  pub clauses : List Clause
  pub query : Clause
  pub names : List (List ℕ)

-- Clause 0 is the query, and the clauses follow from 1 on. (A number that names none stands for the query, and is
-- nobody's candidate.)
abbrev pub clause_at : Program → ℕ → Clause
clause_at P c = get_or (P.query ∷ P.clauses) c P.query

abbrev pub same_count : Terms → Terms → Bool
same_count none none = true
same_count none (more u us) = false
same_count (more t ts) none = false
same_count (more t ts) (more u us) = same_count ts us

-- the same name and number of arguments
abbrev pub same_predicate : Term → Term → Bool
same_predicate (compound c ts) (compound d us) = nat_eq c d && same_count ts us
same_predicate (compound c ts) (variable q k) = false
same_predicate (compound c ts) (number z) = false
same_predicate (variable q k) h = false
same_predicate (number z) h = false

-- the number names a clause, not the query, of the goal's predicate
abbrev pub is_of : Program → Term → ℕ → Bool
is_of P g c = ltb 0 c && leb c (length P.clauses) && same_predicate g (clause_at P c).head

abbrev pub Of : Program → Term → ℕ → Type 0
Of P g c = is_of P g c ≡ true

abbrev pub is_goals : List Item → ℕ
is_goals [] = 0
is_goals (arithmetic (is l r) ∷ items) = suc (is_goals items)
is_goals (arithmetic (compare r a b) ∷ items) = is_goals items
is_goals (call g ∷ items) = is_goals items
is_goals (equal a b ∷ items) = is_goals items
is_goals (fail ∷ items) = is_goals items

-- 1, its variables, and 2 for each `is` goal
unfoldable pub clause_weight : Clause → ℕ
clause_weight k = 1 + k.variables + (is_goals k.body + is_goals k.body)

-- the head of clause c in the frame of that path
abbrev pub head_in : Program → Path → ℕ → Term
head_in P q c = framed q (clause_at P c).head

-- an arithmetic goal of a clause, in the frame of that path
abbrev pub arithmetic_in : Path → Arithmetic → Arithmetic
arithmetic_in q (is l r) = is (framed q l) (framed q r)
arithmetic_in q (compare r a b) = compare r (framed q a) (framed q b)
