-- Predicates, and the clauses that they have, by their numbers.
use Rattle.std.specs.Prelude.{ℕ, ◌≡◌, suc, Bool, false, ◌&&◌, cond, List, [], ◌∷◌, length, Option, Some, None, nat_eq}
use Rattle.std.specs.Prelude.{Vec}
use Rattle.std.specs.HashMap.{HashMap, get}
use Rattle.and_model.specs.Terms.{Term, variable, number, compound}
use Rattle.and_model.specs.Programs.{Clause}
use Rattle.and_model.specs.declared.numbers.ClauseNo.{ClauseNo}
use Rattle.and_model.specs.Terms.{width}
use Rattle.and_program.specs.Skeletons
use Rattle.and_program.specs.Skeletons.{Shape}
use Rattle.and_program.specs.declared.predicates.Predicate.{Predicate}

-- the predicate of a term
abbrev pub predicate_in : Term → Option Predicate
predicate_in (variable q k) = None
predicate_in (number z) = None
predicate_in (compound c ts) = Some (record { name = record { 0 = c }; arity = width ts })

-- the predicate of a node of that shape
abbrev pub predicate_in_shape : Shape → Option Predicate
predicate_in_shape (Skeletons.variable k) = None
predicate_in_shape (Skeletons.number z) = None
predicate_in_shape (Skeletons.compound c ns) = Some (record { name = record { 0 = c }; arity = length ns })

-- the same name and number of arguments
abbrev pub same_key : Predicate → Predicate → Bool
same_key p q = nat_eq p.name.0 q.name.0 && nat_eq p.arity q.arity

-- it is there, and is that predicate
abbrev pub is_key_of : Option Predicate → Predicate → Bool
is_key_of None p = false
is_key_of (Some q) p = same_key q p

-- the numbers, from n on, of those clauses whose head is of that predicate
abbrev pub numbers_from : Predicate → ℕ → List Clause → List ClauseNo
numbers_from p n [] = []
numbers_from p n (c ∷ cs) =
    cond (is_key_of (predicate_in c.head) p) (record { 0 = n } ∷ numbers_from p (suc n) cs) (numbers_from p (suc n) cs)

-- a list that may be there
abbrev pub items_in : {Z : Type 0} → Option (Vec ClauseNo Z) → List ClauseNo
items_in None = []
items_in (Some v) = v.items

-- the clauses that a map has for a predicate
abbrev pub numbers_at : {Z S : Type 0} → HashMap Predicate (Vec ClauseNo Z) S → Predicate → List ClauseNo
numbers_at found p = items_in (get same_key found p)

-- For each predicate the map has exactly its clauses among these, in order.
abbrev pub Finds : {Z S : Type 0} → HashMap Predicate (Vec ClauseNo Z) S → List Clause → Type 0
Finds found cs = (p : Predicate) → numbers_at found p ≡ numbers_from p 1 cs
