-- Values of terms, worked out by hand.
use Rattle.std.proofs.Common.{◌≡◌, ◌-◌, ◌^◌, refl, pos, negsuc, Some, None}
use Rattle.and_model.specs.Programs.{own_name}
use Rattle.and_model.specs.Terms.{number, compound, none}
use Rattle.and_model.specs.Arithmetic.{value, of_two, of_one}
use Rattle.and_model.specs.declared.builtins.TheConstants.{DIVIDE, GREATEST, LEAST, MINUS, MODULO, PLUS, REMAINDER, TIMES}
use Rattle.and_examples.specs.Texts.{own, whole, unary, binary}

-- The largest number is 2^63 - 1, and the least -2^63. (negsuc n is -(n + 1).)
pub numbers : (value (whole (2 ^ 63 - 1)) ≡ Some (pos (2 ^ 63 - 1))) × (value (number (negsuc (2 ^ 63 - 1))) ≡ Some (negsuc (2 ^ 63 - 1)))
    × (value (whole (2 ^ 63)) ≡ None) × (value (number (negsuc (2 ^ 63))) ≡ None)
unfolding of_two of_one
numbers = (refl, refl, refl, refl)

-- 2 + 3 = 5, 2 - 3 = -1, 2 * -3 = -6
pub sums : (value (binary PLUS (whole 2) (whole 3)) ≡ Some (pos 5)) × (value (binary MINUS (whole 2) (whole 3)) ≡ Some (negsuc 0))
    × (value (binary TIMES (whole 2) (number (negsuc 2))) ≡ Some (negsuc 5))
unfolding of_two of_one
sums = (refl, refl, refl)

-- 1 + 2 * 3 = 7
pub precedence : value (binary PLUS (whole 1) (binary TIMES (whole 2) (whole 3))) ≡ Some (pos 7)
unfolding of_two of_one
precedence = refl

-- -7 // 2 = -3, 7 // -2 = -3, -7 // -2 = 3
pub quotients : (value (binary DIVIDE (number (negsuc 6)) (whole 2)) ≡ Some (negsuc 2))
    × (value (binary DIVIDE (whole 7) (number (negsuc 1))) ≡ Some (negsuc 2)) × (value (binary DIVIDE (number (negsuc 6)) (number (negsuc 1))) ≡ Some (pos 3))
unfolding of_two of_one
quotients = (refl, refl, refl)

-- -7 = -4 * 2 + 1, 7 = -4 * -2 - 1, -7 = 3 * -2 - 1
pub moduli : (value (binary MODULO (number (negsuc 6)) (whole 2)) ≡ Some (pos 1)) × (value (binary MODULO (whole 7) (number (negsuc 1))) ≡ Some (negsuc 0))
    × (value (binary MODULO (number (negsuc 6)) (number (negsuc 1))) ≡ Some (negsuc 0))
unfolding of_two of_one
moduli = (refl, refl, refl)

-- -7 = -3 * 2 - 1, 7 = -3 * -2 + 1, -7 = 3 * -2 - 1
pub remainders : (value (binary REMAINDER (number (negsuc 6)) (whole 2)) ≡ Some (negsuc 0))
    × (value (binary REMAINDER (whole 7) (number (negsuc 1))) ≡ Some (pos 1))
    × (value (binary REMAINDER (number (negsuc 6)) (number (negsuc 1))) ≡ Some (negsuc 0))
unfolding of_two of_one
remainders = (refl, refl, refl)

-- -2^63 divided by -1 is 2^63, which does not fit, and nothing is left over. Nor does its negation fit.
pub least_integer : (value (binary DIVIDE (number (negsuc (2 ^ 63 - 1))) (number (negsuc 0))) ≡ None)
    × (value (binary MODULO (number (negsuc (2 ^ 63 - 1))) (number (negsuc 0))) ≡ Some (pos 0))
    × (value (binary REMAINDER (number (negsuc (2 ^ 63 - 1))) (number (negsuc 0))) ≡ Some (pos 0)) × (value (unary MINUS (number (negsuc (2 ^ 63 - 1)))) ≡ None)
unfolding of_two of_one
least_integer = (refl, refl, refl, refl)

-- -(7) and -(0)
pub negated : (value (unary MINUS (whole 7)) ≡ Some (negsuc 6)) × (value (unary MINUS (whole 0)) ≡ Some (pos 0))
unfolding of_two of_one
negated = (refl, refl)

-- min(3, -5) and max(3, -5)
pub extremes : (value (binary LEAST (whole 3) (number (negsuc 4))) ≡ Some (negsuc 4)) × (value (binary GREATEST (whole 3) (number (negsuc 4))) ≡ Some (pos 3))
unfolding of_two of_one
extremes = (refl, refl)

-- nothing is divided by 0
pub by_zero : (value (binary DIVIDE (whole 1) (whole 0)) ≡ None) × (value (binary MODULO (whole 1) (whole 0)) ≡ None)
    × (value (binary REMAINDER (whole 1) (whole 0)) ≡ None)
unfolding of_two of_one
by_zero = (refl, refl, refl)

-- A part that does not fit has no value, though the whole would.
pub too_wide : (value (binary PLUS (whole (2 ^ 63 - 1)) (whole 1)) ≡ None)
    × (value (binary MINUS (binary PLUS (whole (2 ^ 63 - 1)) (whole 1)) (whole 1)) ≡ None)
unfolding of_two of_one
too_wide = (refl, refl)

-- a variable, an atom, sums with these, a name with no place in the table, and a sum of one
pub no_value : (value (own 0) ≡ None) × (value (compound (own_name 0) none) ≡ None) × (value (binary PLUS (whole 1) (own 0)) ≡ None)
    × (value (binary PLUS (whole 1) (compound (own_name 0) none)) ≡ None) × (value (binary (own_name 0) (whole 1) (whole 2)) ≡ None)
    × (value (unary PLUS (whole 1)) ≡ None)
unfolding of_two of_one
no_value = (refl, refl, refl, refl, refl, refl)
