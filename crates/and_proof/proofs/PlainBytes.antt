-- What is written of numbers and terms has no newline.
use Rattle.std.proofs.Common.{ℕ, zero, suc, ℤ, pos, negsuc, ◌≡◌, ◌+◌, ◌<◌, ◌≤◌, ◌/◌, ◌%◌, Bool, true, false, true≢false, not, cond, ◌&&◌, ◌||◌, List, [], ◌∷◌}
use Rattle.std.proofs.Common.{◌++◌, get_or, nat_eq, nat_lt, refl, ap, sym, ◌∙◌, subst, inl, inr, arith, Contains}
use Rattle.std.proofs.lemmas.Bool.{ltb-false, eqb-true}
use Rattle.std.proofs.lemmas.List.Elements.{Contains-append_cases}
use Rattle.std.specs.Fmt.{decimal, signed_decimal, digits, digits_onto, digit_glyph}
use Rattle.and_model.specs.Terms.{Path, Term, Terms, variable, number, compound, none, more}
use Rattle.and_model.specs.Lines.{Bytes, is_small, is_word, is_symbol, holds_of_all, is_plain_name, is_symbol_name, is_point, begins_comment, is_brackets}
use Rattle.and_model.specs.Lines.{escaped, all_escaped, shown_name, is_cell, is_nil, place_of, shown, shown_arguments, shown_rest, shown_elements, shown_tail}
use Rattle.and_laws.proofs.Equality.{bool_cases}
use Rattle.and_laws.proofs.Ordered.{contains_cases, contains_none}
use Rattle.and_laws.proofs.Substitutions.{and_left, and_right}

-- ---- Digits

-- each of these bytes is a digit
abbrev pub AreDigits : Bytes → Type 0
AreDigits bs = (b : ℕ) → Contains bs b → (48 ≤ b) × (b ≤ 57)

one_digit : (d : ℕ) → d < 10 → (48 ≤ digit_glyph false d) × (digit_glyph false d ≤ 57)
one_digit d low = elim (bool_cases (nat_lt d 10)) [
  | inl e ↦
      let is : digit_glyph false d ≡ 48 + d = ap (λ b. cond b (48 + d) (87 + d)) e in
      (omega (arith, is), omega (arith, is, low))
  | inr e ↦ absurd (let past = ltb-false d 10 e in omega arith)
]

digit_before : (d : ℕ) (acc : Bytes) → d < 10 → AreDigits acc → AreDigits (digit_glyph false d ∷ acc)
digit_before d acc low all b h = elim (contains_cases (digit_glyph false d) b acc h) [
  | inl e ↦ subst (λ (x : ℕ). (48 ≤ x) × (x ≤ 57)) (sym e) (one_digit d low)
  | inr i ↦ all b i
]

onto_digits : (k n : ℕ) (acc : Bytes) → AreDigits acc → AreDigits (digits_onto k 10 false n acc)
onto_digits zero n acc all = all
onto_digits (suc k) n acc all =
    let low : n % 10 < 10 = omega arith in
    let here : AreDigits (digit_glyph false (n % 10) ∷ acc) = digit_before (n % 10) acc low all in
    elim (nat_eq (n / 10) 0) as
    (λ b. AreDigits (cond b (digit_glyph false (n % 10) ∷ acc) (digits_onto k 10 false (n / 10) (digit_glyph false (n % 10) ∷ acc))))
    [ true ↦ here | false ↦ onto_digits k (n / 10) (digit_glyph false (n % 10) ∷ acc) here ]

-- The text of a number has digits alone.
pub decimal_digits : (n : ℕ) → AreDigits (decimal n)
unfolding digits
decimal_digits n = onto_digits 64 n [] (λ b h. absurd (contains_none b h))

-- a byte that is no digit is not there
pub no_digit : (bs : Bytes) (b : ℕ) → AreDigits bs → b < 48 → Contains bs b → ⊥
no_digit bs b all low h = let d = all b h in let least = d.0 in omega (arith, low, least)

-- it is not empty
abbrev HasFirst : Bytes → Type 0
HasFirst bs = (b : ℕ) × (rest : Bytes) × (bs ≡ b ∷ rest)

onto_first : (k n b : ℕ) (acc : Bytes) → HasFirst (digits_onto k 10 false n (b ∷ acc))
onto_first zero n b acc = (b, acc, refl)
onto_first (suc k) n b acc =
    elim (nat_eq (n / 10) 0) as
    (λ x. HasFirst (cond x (digit_glyph false (n % 10) ∷ b ∷ acc) (digits_onto k 10 false (n / 10) (digit_glyph false (n % 10) ∷ b ∷ acc))))
    [ true ↦ (digit_glyph false (n % 10), b ∷ acc, refl) | false ↦ onto_first k (n / 10) (digit_glyph false (n % 10)) (b ∷ acc) ]

decimal_nonempty : (n : ℕ) → HasFirst (decimal n)
unfolding digits
decimal_nonempty n =
    elim (nat_eq (n / 10) 0) as (λ x. HasFirst (cond x (digit_glyph false (n % 10) ∷ []) (digits_onto 63 10 false (n / 10) (digit_glyph false (n % 10) ∷ []))))
    [ true ↦ (digit_glyph false (n % 10), [], refl) | false ↦ onto_first 63 (n / 10) (digit_glyph false (n % 10)) [] ]

pub decimal_first : (n : ℕ) → (b : ℕ) × (rest : Bytes) × (decimal n ≡ b ∷ rest)
decimal_first n = decimal_nonempty n

-- ---- Texts without a newline

abbrev pub IsPlain : Bytes → Type 0
IsPlain bs = Contains bs 10 → ⊥

pub none_plain : IsPlain []
none_plain h = contains_none 10 h

pub byte_plain : (b : ℕ) (bs : Bytes) → nat_eq b 10 ≡ false → IsPlain bs → IsPlain (b ∷ bs)
byte_plain b bs other rest h = elim (contains_cases b 10 bs h) [
  | inl e ↦ let same : nat_eq b 10 ≡ true = ap (λ x. nat_eq x 10) (sym e) in true≢false (sym same ∙ other)
  | inr i ↦ rest i
]

pub both_plain : (bs cs : Bytes) → IsPlain bs → IsPlain cs → IsPlain (bs ++ cs)
both_plain bs cs one other h = elim (Contains-append_cases bs cs 10 h) [ inl i ↦ one i | inr i ↦ other i ]

pub decimal_plain : (n : ℕ) → IsPlain (decimal n)
decimal_plain n = no_digit (decimal n) 10 (decimal_digits n) (omega arith)

signed_plain : (z : ℤ) → IsPlain (signed_decimal z)
signed_plain (pos n) = decimal_plain n
signed_plain (negsuc n) = byte_plain 45 (decimal (suc n)) refl (decimal_plain (suc n))

-- bytes that all pass a test which a newline does not
pub passed_plain : (p : ℕ → Bool) (bs : Bytes) → p 10 ≡ false → holds_of_all p bs ≡ true → IsPlain bs
passed_plain p [] without all h = contains_none 10 h
passed_plain p (b ∷ bs) without all h = elim (contains_cases b 10 bs h) [
  | inl e ↦ true≢false (sym (and_left (p b) (holds_of_all p bs) all) ∙ ap p (sym e) ∙ without)
  | inr i ↦ passed_plain p bs without (and_right (p b) (holds_of_all p bs) all) i
]

plain_name : (bs : Bytes) → is_plain_name bs ≡ true → IsPlain bs
plain_name [] e h = contains_none 10 h
plain_name (b ∷ bs) e h = elim (contains_cases b 10 bs h) [
  | inl f ↦ true≢false (sym (and_left (is_small b) (holds_of_all is_word bs) e) ∙ sym (ap is_small f))
  | inr i ↦ passed_plain is_word bs refl (and_right (is_small b) (holds_of_all is_word bs) e) i
]

symbol_name : (bs : Bytes) → is_symbol_name bs ≡ true → IsPlain bs
symbol_name [] e = none_plain
symbol_name (b ∷ bs) e = passed_plain is_symbol (b ∷ bs) refl
    (and_left (holds_of_all is_symbol (b ∷ bs)) (not (is_point (b ∷ bs)))
    (and_left (holds_of_all is_symbol (b ∷ bs) && not (is_point (b ∷ bs))) (not (begins_comment (b ∷ bs))) e))

brackets_name : (bs : Bytes) → is_brackets bs ≡ true → IsPlain bs
brackets_name [] e = none_plain
brackets_name (b ∷ []) e = absurd (true≢false (sym e))
brackets_name (b ∷ d ∷ []) e =
    let first : b ≡ 91 = eqb-true b 91 (and_left (nat_eq b 91) (nat_eq d 93) e) in
    let second : d ≡ 93 = eqb-true d 93 (and_right (nat_eq b 91) (nat_eq d 93) e) in
    byte_plain b (d ∷ []) (ap (λ x. nat_eq x 10) first) (byte_plain d [] (ap (λ x. nat_eq x 10) second) none_plain)
brackets_name (b ∷ d ∷ c ∷ bs) e = absurd (true≢false (sym e))

escaped_plain : (b : ℕ) → IsPlain (escaped b)
escaped_plain b =
    elim (nat_eq b 92) as (λ x. IsPlain (cond x (92 ∷ 92 ∷ []) (cond (nat_eq b 39) (92 ∷ 39 ∷ []) (cond (nat_eq b 10) (92 ∷ 110 ∷ []) (b ∷ [])))))
    [ true ↦ byte_plain 92 (92 ∷ []) refl (byte_plain 92 [] refl none_plain) | false ↦ quote ]
  where
    other : (x : Bool) → nat_eq b 10 ≡ x → IsPlain (cond x (92 ∷ 110 ∷ []) (b ∷ []))
    other true e = byte_plain 92 (110 ∷ []) refl (byte_plain 110 [] refl none_plain)
    other false e = byte_plain b [] e none_plain

    quote : IsPlain (cond (nat_eq b 39) (92 ∷ 39 ∷ []) (cond (nat_eq b 10) (92 ∷ 110 ∷ []) (b ∷ [])))
    quote = elim (nat_eq b 39) as (λ x. IsPlain (cond x (92 ∷ 39 ∷ []) (cond (nat_eq b 10) (92 ∷ 110 ∷ []) (b ∷ []))))
        [ true ↦ byte_plain 92 (39 ∷ []) refl (byte_plain 39 [] refl none_plain) | false ↦ other (nat_eq b 10) refl ]

all_escaped_plain : (bs : Bytes) → IsPlain (all_escaped bs)
all_escaped_plain [] = none_plain
all_escaped_plain (b ∷ bs) = both_plain (escaped b) (all_escaped bs) (escaped_plain b) (all_escaped_plain bs)

or_cases : (a b c : Bool) → (a || b || c) ≡ true → (x : Bytes) → (a ≡ true → IsPlain x) → (b ≡ true → IsPlain x) → (c ≡ true → IsPlain x) → IsPlain x
or_cases true b c e x f g h = f refl
or_cases false true c e x f g h = g refl
or_cases false false c e x f g h = h e

name_plain : (bs : Bytes) → IsPlain (shown_name bs)
name_plain bs = at (is_plain_name bs || is_symbol_name bs || is_brackets bs) refl
  where
    at : (x : Bool) → (is_plain_name bs || is_symbol_name bs || is_brackets bs) ≡ x → IsPlain (cond x bs (39 ∷ all_escaped bs ++ 39 ∷ []))
    at true e = or_cases (is_plain_name bs) (is_symbol_name bs) (is_brackets bs) e bs (plain_name bs) (symbol_name bs) (brackets_name bs)
    at false e = byte_plain 39 (all_escaped bs ++ 39 ∷ []) refl
        (both_plain (all_escaped bs) (39 ∷ []) (all_escaped_plain bs) (byte_plain 39 [] refl none_plain))

module _ (names : List Bytes) (vs : List (Path × ℕ)) where
  mutual
    -- A term is written without a newline.
    pub shown_plain : (t : Term) → IsPlain (shown names vs t)
    shown_plain (variable q k) = byte_plain 95 (decimal (place_of (q, k) vs)) refl (decimal_plain (place_of (q, k) vs))
    shown_plain (number z) = signed_plain z
    shown_plain (compound c ts) =
        elim (is_cell c ts) as (λ b.
        IsPlain (cond b (91 ∷ shown_elements names vs ts ++ 93 ∷ []) (shown_name (get_or names c []) ++ shown_arguments names vs ts))) [
          | true ↦ byte_plain 91 (shown_elements names vs ts ++ 93 ∷ []) refl
              (both_plain (shown_elements names vs ts) (93 ∷ []) (elements_plain ts) (byte_plain 93 [] refl none_plain))
          | false ↦ both_plain (shown_name (get_or names c [])) (shown_arguments names vs ts) (name_plain (get_or names c [])) (arguments_plain ts)
        ]

    arguments_plain : (ts : Terms) → IsPlain (shown_arguments names vs ts)
    arguments_plain none = none_plain
    arguments_plain (more t ts) = byte_plain 40 (shown names vs t ++ shown_rest names vs ts) refl
        (both_plain (shown names vs t) (shown_rest names vs ts) (shown_plain t) (rest_plain ts))

    rest_plain : (ts : Terms) → IsPlain (shown_rest names vs ts)
    rest_plain none = byte_plain 41 [] refl none_plain
    rest_plain (more t ts) = byte_plain 44 (shown names vs t ++ shown_rest names vs ts) refl
        (both_plain (shown names vs t) (shown_rest names vs ts) (shown_plain t) (rest_plain ts))

    elements_plain : (ts : Terms) → IsPlain (shown_elements names vs ts)
    elements_plain none = none_plain
    elements_plain (more h none) = none_plain
    elements_plain (more h (more t ts)) = both_plain (shown names vs h) (shown_tail names vs t) (shown_plain h) (tail_plain t)

    tail_plain : (t : Term) → IsPlain (shown_tail names vs t)
    tail_plain (variable q k) = byte_plain 124 (95 ∷ decimal (place_of (q, k) vs)) refl
        (byte_plain 95 (decimal (place_of (q, k) vs)) refl (decimal_plain (place_of (q, k) vs)))
    tail_plain (number z) = byte_plain 124 (signed_decimal z) refl (signed_plain z)
    tail_plain (compound c ts) =
        elim (is_cell c ts) as (λ b. IsPlain (cond b (44 ∷ shown_elements names vs ts)
        (cond (is_nil c ts) [] (124 ∷ shown_name (get_or names c []) ++ shown_arguments names vs ts)))) [
          | true ↦ byte_plain 44 (shown_elements names vs ts) refl (elements_plain ts)
          | false ↦ elim (is_nil c ts) as (λ b. IsPlain (cond b [] (124 ∷ shown_name (get_or names c []) ++ shown_arguments names vs ts))) [
            | true ↦ none_plain
            | false ↦ byte_plain 124 (shown_name (get_or names c []) ++ shown_arguments names vs ts) refl
                (both_plain (shown_name (get_or names c [])) (shown_arguments names vs ts) (name_plain (get_or names c [])) (arguments_plain ts))
          ]
        ]
