-- The decimal digits of a number are a numeral of it.
use Rattle.std.proofs.Common.{ℕ, ◌+◌, ◌-◌, ◌*◌, ◌/◌, ◌%◌, ◌^◌, ◌≡◌, ◌<◌, ◌≤◌, true, [], ◌∷◌, ◌++◌, refl, sym, subst, ◌∙◌, arith, true≢false}
use Rattle.std.specs.Fmt.{decimal}
use Rattle.std.proofs.lemmas.Fmt.{decimal_by_steps}
use Rattle.and_model.specs.Lines.{Bytes, holds_of_all}
use Rattle.and_lex.proofs.Choices.{and_true}
use Rattle.and_language.specs.Tokens.{is_digit, is_numeral, number_behind, number_of, is_separated}

-- a digit
digit_is : (d : ℕ) → d < 10 → is_digit (48 + d) ≡ true
digit_is d h = grind arith

abbrev IsNumeralOf : ℕ → Bytes → Type 0
IsNumeralOf n bs = (is_numeral bs ≡ true) × (number_of bs ≡ n)

all_more : (bs : Bytes) (b : ℕ) → holds_of_all is_digit bs ≡ true → is_digit b ≡ true → holds_of_all is_digit (bs ++ b ∷ []) ≡ true
all_more [] b h e = grind arith
all_more (x ∷ xs) b h e = grind (arith, all_more xs b)

number_more : (m : ℕ) (bs : Bytes) (b : ℕ) → number_behind m (bs ++ b ∷ []) ≡ number_behind m bs * 10 + (b - 48)
number_more m [] b = refl
number_more m (x ∷ xs) b = number_more (m * 10 + (x - 48)) xs b

numeral_more : (n : ℕ) (bs : Bytes) (d : ℕ) → d < 10 → IsNumeralOf n bs → IsNumeralOf (n * 10 + d) (bs ++ (48 + d) ∷ [])
numeral_more n [] d small h = absurd (true≢false (sym h.0))
numeral_more n (b ∷ bs) d small h = (
  all_more (b ∷ bs) (48 + d) h.0 (digit_is d small),
  number_more 0 (b ∷ bs) (48 + d) ∙ omega (arith, h.1),
)

first_numeral : (n : ℕ) → n < 10 → IsNumeralOf n ((48 + n) ∷ [])
first_numeral n small = (let d : is_digit (48 + n) ≡ true = digit_is n small in grind (arith, d), omega arith)

next_numeral : (n : ℕ) (ds : Bytes) → 10 ≤ n → IsNumeralOf (n / 10) ds → IsNumeralOf n (ds ++ (48 + n % 10) ∷ [])
next_numeral n ds large h =
    let whole : n / 10 * 10 + n % 10 ≡ n = omega arith in
    subst (λ m. IsNumeralOf m (ds ++ (48 + n % 10) ∷ [])) whole (numeral_more (n / 10) ds (n % 10) (omega arith) h)

pub numeral_of : (n : ℕ) → n < 2 ^ 64 → IsNumeralOf n (decimal n)
numeral_of = decimal_by_steps IsNumeralOf first_numeral next_numeral

-- no layout and no comment begins a numeral
pub numeral_separated : (bs rest : Bytes) → is_numeral bs ≡ true → is_separated (bs ++ rest) ≡ true
numeral_separated [] rest h = absurd (true≢false (sym h))
numeral_separated (b ∷ bs) rest h = separated b (bs ++ rest) (and_true (is_digit b) (holds_of_all is_digit bs) h).0
  where
    separated : (b : ℕ) (xs : Bytes) → is_digit b ≡ true → is_separated (b ∷ xs) ≡ true
    separated b xs h = grind arith
