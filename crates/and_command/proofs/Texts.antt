-- Texts of digits, as clap reads them.
use Rattle.std.proofs.Common.{◌≡◌, ℕ, ◌<◌, ◌^◌, Bool, true, false, [], ◌∷◌, ◌&&◌, ◌==◌, refl, arith}
use Rattle.std.proofs.lemmas.Int.{ints}
use Rattle.std.specs.Prelude.{pos}
use Rattle.std.specs.List.{list_all}
use Rattle.std.specs.Char.{is_ascii_digit}
use Rattle.std.specs.Int.{IsInRange}
use Rattle.std.specs.Str.Parse.{digits_value, AllDigits, IsNumeral, without_leading_sign, signed_digits_value}
use Rattle.std.proofs.lemmas.Str.{digit_value_digit}
use Rattle.std.proofs.lemmas.Bool.{leb-true, ne_eqb}
use Rattle.clap.specs.Walk.{Text}
use Rattle.clap.specs.Lexer.{without_minus}
use Rattle.clap.specs.Values.{IsSignedIn}
use Rattle.clap.specs.ValueTests.{accepts}
use Rattle.clap.specs.declared.builder.value_parser.ValueParser.TheVariants as vp
use Rattle.clap.proofs.ValueTestLemmas.{Accepts-accepts}
use Rattle.and_command.specs.Values.{Writes}

both : (a b : Bool) → (a && b) ≡ true → (a ≡ true) × (b ≡ true)
both true b is = (refl, is)
both false b is = absurd (cc)

in_range : (c : ℕ) → is_ascii_digit c ≡ true → IsInRange 48 57 c
in_range c is =
    let ends = both _ _ is in
    (leb-true 48 c ends.0, leb-true c 57 ends.1)

all_digits : (v : Text) → list_all is_ascii_digit v ≡ true → AllDigits 10 v
all_digits [] is = tt
all_digits (c ∷ cs) is =
    let parts = both (is_ascii_digit c) (list_all is_ascii_digit cs) is in
    let within = in_range c parts.0 in
    (omega (arith, digit_value_digit c within, within.0, within.1), all_digits cs parts.1)

-- the first byte is no sign
pub no_minus : (d : ℕ) (ds : Text) → list_all is_ascii_digit (d ∷ ds) ≡ true → (d == 45) ≡ false
no_minus d ds is =
    let within = in_range d (both (is_ascii_digit d) (list_all is_ascii_digit ds) is).0 in
    ne_eqb d 45 (λ e. omega (arith, e, within.0))

no_plus : (d : ℕ) (ds : Text) → list_all is_ascii_digit (d ∷ ds) ≡ true → (d == 43) ≡ false
no_plus d ds is =
    let within = in_range d (both (is_ascii_digit d) (list_all is_ascii_digit ds) is).0 in
    ne_eqb d 43 (λ e. omega (arith, e, within.0))

pub same_text : (v : Text) → list_all is_ascii_digit v ≡ true → without_minus v ≡ v
same_text [] is = refl
same_text (d ∷ ds) is = rw (no_minus d ds is) refl

no_sign : (d : ℕ) (ds : Text) → list_all is_ascii_digit (d ∷ ds) ≡ true → without_leading_sign (d ∷ ds) ≡ d ∷ ds
no_sign d ds is = rw (no_minus d ds is, no_plus d ds is) refl

value_is : (d : ℕ) (ds : Text) → list_all is_ascii_digit (d ∷ ds) ≡ true → signed_digits_value 10 (d ∷ ds) ≡ pos (digits_value 10 (d ∷ ds))
value_is d ds is = rw (no_minus d ds is, no_plus d ds is) refl

abbrev pub is_u32 : Text → Bool
is_u32 v = accepts false (vp.Signed (pos 0) (pos 4294967295)) v

pub accepted : (v : Text) (n : ℕ) → Writes v n → is_u32 v ≡ true
accepted [] n w = absurd (omega (arith, w.some))
accepted (d ∷ ds) n w =
    let v : Text = d ∷ ds in
    let small : digits_value 10 v < 2 ^ 32 = omega (arith, w.number, w.small) in
    let numeral : IsNumeral 10 (without_leading_sign v) = rw (no_sign d ds w.digits) (w.some, all_digits v w.digits) in
    let within : IsSignedIn (pos 0) (pos 4294967295) v = (
      numeral,
      rw (value_is d ds w.digits) (record { sfits = omega (arith, small) }),
      rw (value_is d ds w.digits) (omega (arith, ints)),
      rw (value_is d ds w.digits) (omega (arith, ints, small)),
    ) in
    Accepts-accepts false (vp.Signed (pos 0) (pos 4294967295)) v within
