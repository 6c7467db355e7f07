-- Numbers that words write.
use Rattle.std.proofs.Common.{◌≡◌, ℕ, ◌<◌, ◌≤◌, ◌^◌, Bool, true, false, List, [], ◌∷◌, length, Some, None, Result}
use Rattle.std.proofs.Common.{if◌then◌else◌, ◌&&◌, not, nat_lt, refl, ap, ◌∙◌, arith}
use Rattle.std.specs.List.{list_all}
use Rattle.std.specs.Char.{is_ascii_digit}
use Rattle.std.specs.Str.Parse.{digits_value, ParsesUnsigned}
use Rattle.std.specs.Result.{OkIff}
use Rattle.std.proofs.lemmas.Str.Parse.{tells_all_ascii_digits, numerals_by_value, parse_digits}
use Rattle.std.specs.Str.{all_ascii_digits}
use Rattle.and_model.specs.Lines.{Bytes}
use Rattle.and_command.specs.Options.{is_numeral, is_within, number_in, value_of}
use Rattle.and_command.specs.Values.{Writes}
use Rattle.and_command.specs.declared.options.Name.{Name}
use Rattle.and_command.specs.declared.options.Name.TheVariants.{Limit, Jobs, Teams, Workers}

both : (a b : Bool) → (a && b) ≡ true → (a ≡ true) × (b ≡ true)
both true b is = (refl, is)
both false b is = absurd (cc)

same_test : (ds : List ℕ) → all_ascii_digits ds ≡ list_all is_ascii_digit ds
same_test [] = refl
same_test (c ∷ cs) = ap (λ b. is_ascii_digit c && b) (same_test cs)

-- a word of digits alone is read as its number, where that is not too large
pub parses : {E : Type 0} (word : Bytes) (r : Result ℕ E) → ParsesUnsigned 32 10 word r → list_all is_ascii_digit word ≡ true
    → OkIff r ((0 < length word) × (digits_value 10 word < 2 ^ 32)) (digits_value 10 word)
parses word r parsed digits = parse_digits (numerals_by_value (λ ds. all_ascii_digits ds ≡ true) tells_all_ascii_digits) 32 word r parsed
    (same_test word ∙ digits)

not_chosen : (t : Bool) (n : ℕ) → (t ≡ true → ⊥) → (if t then Some n else None) ≡ None
not_chosen true n other = absurd (other refl)
not_chosen false n other = refl

chosen : (t : Bool) (n : ℕ) → t ≡ true → (if t then Some n else None) ≡ Some n
chosen t n is = ap (λ b. if b then Some n else None) is

above : (a b : ℕ) → not (nat_lt a b) ≡ true → b ≤ a
above a b is = grind arith

below : (a b : ℕ) → nat_lt a b ≡ true → a < b
below a b is = grind arith

-- what the test of a number says
pub says : (longest least most : ℕ) (word : Bytes) → (is_numeral longest word && is_within least most (digits_value 10 word)) ≡ true
    → (0 < length word) × (length word ≤ longest) × (least ≤ digits_value 10 word) × (digits_value 10 word ≤ most)
    × (list_all is_ascii_digit word ≡ true)
says longest least most word is =
    let v = digits_value 10 word in
    let sides = both (is_numeral longest word) (is_within least most v) is in
    let numeral = both (list_all is_ascii_digit word && nat_lt 0 (length word)) (not (nat_lt longest (length word))) sides.0 in
    let digits = both (list_all is_ascii_digit word) (nat_lt 0 (length word)) numeral.0 in
    let range = both (not (nat_lt v least)) (not (nat_lt most v)) sides.1 in
    (below 0 (length word) digits.1, above longest (length word) numeral.1, above v least range.0, above most v range.1, digits.0)

-- a word that is not read, too long, with other bytes than digits, or out of the range
pub no_number : (longest least most : ℕ) (word : Bytes)
    → ((0 < length word) × (length word ≤ longest) × (least ≤ digits_value 10 word) × (digits_value 10 word ≤ most)
    × (list_all is_ascii_digit word ≡ true) → ⊥)
    → number_in longest least most word ≡ None
no_number longest least most word other =
    not_chosen (is_numeral longest word && is_within least most (digits_value 10 word)) (digits_value 10 word)
    (λ is. other (says longest least most word is))

-- a word that cannot be read has no number
pub unread : (longest least most : ℕ) (word : Bytes) → most < 2 ^ 32 → ((0 < length word) × (digits_value 10 word < 2 ^ 32) → ⊥)
    → number_in longest least most word ≡ None
unread longest least most word small not_read =
    no_number longest least most word (λ says. not_read (says.0, omega (arith, says.3, small)))

from_chosen : (t : Bool) (v n : ℕ) → (if t then Some v else None) ≡ Some n → (t ≡ true) × (v ≡ n)
from_chosen true v n is = (refl, cc)
from_chosen false v n is = absurd (cc)

-- a number that a word writes is in the range
pub is_in_range : (longest least most : ℕ) (word : Bytes) (n : ℕ) → number_in longest least most word ≡ Some n → (least ≤ n) × (n ≤ most)
is_in_range longest least most word n is =
    let v = digits_value 10 word in
    let how = from_chosen (is_numeral longest word && is_within least most v) v n is in
    let told = says longest least most word how.0 in
    (omega (arith, told.2, how.1), omega (arith, told.3, how.1))

-- and is written by digits alone
pub number_writes : (longest least most : ℕ) (word : Bytes) (n : ℕ) → most < 2 ^ 32 → number_in longest least most word ≡ Some n → Writes word n
number_writes longest least most word n small is =
    let v = digits_value 10 word in
    let how = from_chosen (is_numeral longest word && is_within least most v) v n is in
    let told = says longest least most word how.0 in
    record {
      digits = told.4;
      some = told.0;
      number = how.1;
      small = omega (arith, told.3, how.1, small);
    }

pub value_writes : (name : Name) (word : Bytes) (n : ℕ) → value_of name word ≡ Some n → Writes word n
value_writes Limit word n is = number_writes 7 1 4194304 word n (omega arith) is
value_writes Jobs word n is = number_writes 7 1 8 word n (omega arith) is
value_writes Teams word n is = number_writes 7 1 16 word n (omega arith) is
value_writes Workers word n is = number_writes 7 1 8 word n (omega arith) is
