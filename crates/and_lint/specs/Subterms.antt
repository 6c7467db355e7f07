-- The subterms of a clause's terms, and what can be seen of each.
use Rattle.std.specs.Prelude.{ℕ, Bool, true, false, not, ◌&&◌, ◌||◌, nat_eq, List, [], ◌∷◌}
use Rattle.std.specs.Prelude.{◌++◌}
use Rattle.std.specs.List.{list_any}
use Rattle.and_model.specs.Terms.{Term, Terms, variable, number, compound, none, more, width}
use Rattle.and_model.specs.Arithmetic.{is_operation, is_zero}
use Rattle.and_model.specs.Programs.{Item, call, equal, arithmetic, fail, is, compare}
use Rattle.and_program.specs.Shown.{term_at}
use Rattle.and_model.specs.declared.builtins.TheConstants.{DIVIDE, MODULO, REMAINDER}

abbrev mutual
  -- the subterms of a term, each where it occurs: the term, and then those of its arguments from left to right
  pub subterms : Term → List Term
  subterms (variable q k) = variable q k ∷ []
  subterms (number z) = number z ∷ []
  subterms (compound c ts) = compound c ts ∷ subterms_in ts

  pub subterms_in : Terms → List Term
  subterms_in none = []
  subterms_in (more t ts) = subterms t ++ subterms_in ts

-- the terms of an item
abbrev pub terms_of : Item → List Term
terms_of (call g) = g ∷ []
terms_of (equal a b) = a ∷ b ∷ []
terms_of (arithmetic (is l r)) = l ∷ r ∷ []
terms_of (arithmetic (compare o a b)) = a ∷ b ∷ []
terms_of fail = []

-- the expressions of an item: those of its terms that are worked out
abbrev pub expressions_of : Item → List Term
expressions_of (call g) = []
expressions_of (equal a b) = []
expressions_of (arithmetic (is l r)) = r ∷ []
expressions_of (arithmetic (compare o a b)) = a ∷ b ∷ []
expressions_of fail = []

abbrev pub is_division : (name : ℕ) → Bool
is_division c = nat_eq c DIVIDE || nat_eq c MODULO || nat_eq c REMAINDER

-- the numeral 0
abbrev pub is_numeral_zero : Term → Bool
is_numeral_zero (variable q k) = false
is_numeral_zero (number z) = is_zero z
is_numeral_zero (compound c ts) = false

-- A name or a structure that is no operator's, or a division by the numeral 0: whatever its variables are, it has no
-- value.
abbrev pub has_no_value : Term → Bool
has_no_value (variable q k) = false
has_no_value (number z) = false
has_no_value (compound c ts) =
    not (is_operation c (width ts)) || (nat_eq (width ts) 2 && is_division c && is_numeral_zero (term_at ts 1))

-- a variable or a numeral
abbrev pub is_leaf : Term → Bool
is_leaf (variable q k) = true
is_leaf (number z) = true
is_leaf (compound c ts) = false

-- the term is an operator's
abbrev pub is_operators : Term → Bool
is_operators (variable q k) = false
is_operators (number z) = false
is_operators (compound c ts) = is_operation c (width ts)

-- an operator's term with a variable or a numeral in it: it looks as if it were to be worked out
abbrev pub looks_worked_out : Term → Bool
looks_worked_out t = is_operators t && list_any is_leaf (subterms t)
