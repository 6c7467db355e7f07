-- The values of ground terms, in 64 bits (ISO 13211-1, section 9, without its exceptions: where there is no number,
-- there is no value).
use Rattle.std.specs.Prelude.{ℕ, ◌-◌, ◌/◌, ◌^◌, suc, ℤ, pos, negsuc, ◌+ℤ◌, ◌-ℤ◌, ◌*ℤ◌, neg_ℤ, int_div, int_le, int_lt}
use Rattle.std.specs.Prelude.{Bool, false, not, ◌&&◌, List, [], ◌∷◌, Option, Some, None, nat_eq, if◌then◌else◌}
use Rattle.std.specs.List.{list_any}
use Rattle.and_model.specs.Terms.{Term, Terms, variable, number, compound, none, more}
use Rattle.and_model.specs.declared.builtins.TheConstants.{PLUS, MINUS, TIMES, DIVIDE, MODULO, REMAINDER, LEAST}
use Rattle.and_model.specs.declared.builtins.TheConstants.{GREATEST, OPERATIONS}

-- a number of 64 bits with a sign, else none
abbrev pub in_range : ℤ → Option ℤ
in_range z = if int_le (negsuc (2 ^ 63 - 1)) z && int_le z (pos (2 ^ 63 - 1)) then Some z else None

-- the largest whole number that times m is at most the number
abbrev pub floor_by : ℤ → ℕ → ℤ
floor_by (pos n) m = pos (n / m)
floor_by (negsuc n) m = negsuc (n / m)

-- the quotient, rounded down
abbrev pub floor_quotient : ℤ → ℤ → ℤ
floor_quotient a (pos m) = floor_by a m
floor_quotient a (negsuc m) = floor_by (neg_ℤ a) (suc m)

abbrev pub is_zero : ℤ → Bool
is_zero (pos n) = nat_eq n 0
is_zero (negsuc n) = false

-- the name is an operation of so many numbers
abbrev pub is_operation : (name count : ℕ) → Bool
is_operation c n = list_any (λ (o : ℕ × ℕ). nat_eq n o.1 && nat_eq c o.0) OPERATIONS

-- The table of the operations on two numbers. (`int_div` is the quotient, truncated toward zero.)
unfoldable pub of_two : ℕ → ℤ → ℤ → Option ℤ
of_two c a b =
    if nat_eq c PLUS then in_range (a +ℤ b)
    else if nat_eq c MINUS then in_range (a -ℤ b)
    else if nat_eq c TIMES then in_range (a *ℤ b)
    else if nat_eq c DIVIDE then (if is_zero b then None else in_range (int_div a b))
    else if nat_eq c MODULO then (if is_zero b then None else Some (a -ℤ b *ℤ floor_quotient a b))
    else if nat_eq c REMAINDER then (if is_zero b then None else Some (a -ℤ b *ℤ int_div a b))
    else if nat_eq c LEAST then Some (if int_le a b then a else b)
    else if nat_eq c GREATEST then Some (if int_le a b then b else a)
    else None

unfoldable pub of_one : ℕ → ℤ → Option ℤ
of_one c a = if nat_eq c MINUS then in_range (neg_ℤ a) else None

-- an operation on values; a part without a value has none
abbrev pub operated : ℕ → List (Option ℤ) → Option ℤ
operated c (Some a ∷ []) = of_one c a
operated c (Some a ∷ Some b ∷ []) = of_two c a b
operated c _ = None

abbrev mutual
  -- the value of a term, or none; a variable has none
  pub value : Term → Option ℤ
  value (variable q k) = None
  value (number z) = in_range z
  value (compound c ts) = operated c (values ts)

  pub values : Terms → List (Option ℤ)
  values none = []
  values (more t ts) = value t ∷ values ts

-- the six comparisons
pub data Relation : Type 0 where
  less : Relation
  greater : Relation
  at_most : Relation
  at_least : Relation
  same : Relation
  differs : Relation

abbrev pub related : Relation → ℤ → ℤ → Bool
related less a b = int_lt a b
related greater a b = int_lt b a
related at_most a b = int_le a b
related at_least a b = int_le b a
related same a b = int_le a b && int_le b a
related differs a b = not (int_le a b && int_le b a)

abbrev pub both_related : Relation → Option ℤ → Option ℤ → Bool
both_related r (Some a) (Some b) = related r a b
both_related r _ _ = false

-- both terms have values, and these stand in the relation
unfoldable pub holds : Relation → Term → Term → Bool
holds r a b = both_related r (value a) (value b)
