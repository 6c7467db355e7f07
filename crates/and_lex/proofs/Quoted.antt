-- Quoted tokens: what the bytes behind the opening quote come to.
use Rattle.std.proofs.Common.{ℕ, suc, ◌+◌, ◌-◌, ◌≡◌, ◌≤◌, Bool, true, false, cond, ◌||◌, [], ◌∷◌, ◌++◌, length, take, drop, refl, sym, ap, subst, ◌∙◌, arith}
use Rattle.std.proofs.Common.{inl, inr, ◌⊎◌, append_assoc}
use Rattle.std.specs.Prelude.{nat_eq}
use Rattle.std.proofs.lemmas.Bool.Decides.{nat_tests}
use Rattle.std.proofs.lemmas.List.{append-nil, length-append, drop_all, take_at}
use Rattle.std.proofs.lemmas.Bool.{eqb-true}
use Rattle.and_model.specs.Lines.{Bytes, holds_of_some}
use Rattle.and_language.specs.Tokens.{begins, Names, nothing, plain, doubled_quote, escaped_quote, escaped_backslash, escaped_newline}
use Rattle.and_lex.specs.declared.quotes.QuoteEnd.{QuoteEnd}
use Rattle.and_lex.specs.declared.quotes.QuoteEnd.TheVariants.{Closed, Open, Newline, Unknown}
use Rattle.and_lex.specs.Quoting.{quote_end, end_behind_quote, end_behind_backslash, text_between, text_behind_escape}
use Rattle.and_lex.proofs.Choices.{either_way, second_choice, or_false, both_false}

-- one byte, or two that name one
abbrev pub is_escaped : ℕ → Bool
is_escaped b = holds_of_some (nat_eq b) (39 ∷ 92 ∷ 110 ∷ [])

abbrev pub is_known : ℕ → Bool
is_known b = holds_of_some (nat_eq b) (39 ∷ 92 ∷ 110 ∷ 10 ∷ [])

-- The bytes come to that end, where n stand before them.
abbrev pub IsEnd : ℕ → Bytes → QuoteEnd → Type 0
IsEnd n bs (Closed m) = (c : Bytes) × (t : Bytes) × (rest : Bytes) × (bs ≡ c ++ 39 ∷ rest) × (m ≡ n + length c) × Names c t × (begins (nat_eq 39) rest ≡ false)
IsEnd n bs Open = ((t : Bytes) × Names bs t) ⊎ ((c : Bytes) × (t : Bytes) × (bs ≡ c ++ 92 ∷ []) × Names c t)
IsEnd n bs Newline = (c : Bytes) × (t : Bytes) × (rest : Bytes) × Names c t × ((bs ≡ c ++ 10 ∷ rest) ⊎ (bs ≡ c ++ 92 ∷ 10 ∷ rest))
IsEnd n bs (Unknown m) = (c : Bytes) × (t : Bytes) × (rest : Bytes) × (b : ℕ) × (bs ≡ c ++ 92 ∷ b ∷ rest) × (m ≡ n + length c) × Names c t
    × (is_known b ≡ false)

-- bytes that name one byte stand before them
further : (pre : Bytes) (x n m : ℕ) (bs : Bytes) → m ≡ n + length pre → ((c t : Bytes) → Names c t → Names (pre ++ c) (x ∷ t)) → (e : QuoteEnd) → IsEnd m bs e
    → IsEnd n (pre ++ bs) e
further pre x n m bs k more (Closed i) h = (
  pre ++ h.0,
  x ∷ h.1,
  h.2,
  ap (λ (y : Bytes). pre ++ y) h.3 ∙ sym (append_assoc pre h.0 (39 ∷ h.2)),
  omega (arith, h.4, k, length-append pre h.0),
  more h.0 h.1 h.5,
  h.6,
)
further pre x n m bs k more Open (inl h) = inl (x ∷ h.0, more bs h.0 h.1)
further pre x n m bs k more Open (inr h) = inr (pre ++ h.0, x ∷ h.1, ap (λ (y : Bytes). pre ++ y) h.2 ∙ sym (append_assoc pre h.0 (92 ∷ [])), more h.0 h.1 h.3)
further pre x n m bs k more Newline h = (pre ++ h.0, x ∷ h.1, h.2, more h.0 h.1 h.3, either h.4)
  where
    either : (bs ≡ h.0 ++ 10 ∷ h.2) ⊎ (bs ≡ h.0 ++ 92 ∷ 10 ∷ h.2) → (pre ++ bs ≡ (pre ++ h.0) ++ 10 ∷ h.2) ⊎ (pre ++ bs ≡ (pre ++ h.0) ++ 92 ∷ 10 ∷ h.2)
    either (inl e) = inl (ap (λ (y : Bytes). pre ++ y) e ∙ sym (append_assoc pre h.0 (10 ∷ h.2)))
    either (inr e) = inr (ap (λ (y : Bytes). pre ++ y) e ∙ sym (append_assoc pre h.0 (92 ∷ 10 ∷ h.2)))
further pre x n m bs k more (Unknown i) h = (
  pre ++ h.0,
  x ∷ h.1,
  h.2,
  h.3,
  ap (λ (y : Bytes). pre ++ y) h.4 ∙ sym (append_assoc pre h.0 (92 ∷ h.3 ∷ h.2)),
  omega (arith, h.5, k, length-append pre h.0),
  more h.0 h.1 h.6,
  h.7,
)

-- two bytes that name one
abbrev Escapes : ℕ → ℕ → ℕ → Type 0
Escapes b d x = (c t : Bytes) → Names c t → Names (b ∷ d ∷ c) (x ∷ t)

escape_of : (d : ℕ) → is_escaped d ≡ true → (x : ℕ) × Escapes 92 d x
escape_of d e = first (nat_eq d 39) refl
  where
    third : nat_eq d 39 ≡ false → nat_eq d 92 ≡ false → (x : ℕ) × Escapes 92 d x
    third p q =
        let last : nat_eq d 110 ≡ true = grind (arith, nat_tests) in
        (10, subst (λ (y : ℕ). Escapes 92 y 10) (sym (eqb-true d 110 last)) escaped_newline)

    second : (v : Bool) → nat_eq d 92 ≡ v → nat_eq d 39 ≡ false → (x : ℕ) × Escapes 92 d x
    second true q p = (92, subst (λ (y : ℕ). Escapes 92 y 92) (sym (eqb-true d 92 q)) escaped_backslash)
    second false q p = third p q

    first : (v : Bool) → nat_eq d 39 ≡ v → (x : ℕ) × Escapes 92 d x
    first true p = (39, subst (λ (y : ℕ). Escapes 92 y 39) (sym (eqb-true d 39 p)) escaped_quote)
    first false p = second (nat_eq d 92) refl p

unknown_known : (b : ℕ) → is_escaped b ≡ false → nat_eq b 10 ≡ false → is_known b ≡ false
unknown_known b e f = grind (arith, nat_tests)

other : (d : ℕ) → nat_eq d 39 ≡ false → nat_eq 39 d ≡ false
other d e = grind (arith, nat_tests)

mutual
  pub quote_sound : (n : ℕ) (bs : Bytes) → IsEnd n bs (quote_end n bs)
  quote_sound n [] = inl ([], nothing)
  quote_sound n (b ∷ bs) =
      either_way (IsEnd n (b ∷ bs)) (nat_eq b 39) (end_behind_quote n bs) _
      (λ e. subst (λ (x : ℕ). IsEnd n (x ∷ bs) (end_behind_quote n bs)) (sym (eqb-true b 39 e)) (quote_sound_behind_quote n bs))
      (λ q. either_way (IsEnd n (b ∷ bs)) (nat_eq b 92) (end_behind_backslash n bs) _
      (λ e. subst (λ (x : ℕ). IsEnd n (x ∷ bs) (end_behind_backslash n bs)) (sym (eqb-true b 92 e)) (quote_sound_behind_backslash n bs))
      (λ s. either_way (IsEnd n (b ∷ bs)) (nat_eq b 10) Newline (quote_end (suc n) bs)
      (λ e. ([], [], bs, nothing, inl (ap (λ (x : ℕ). x ∷ bs) (eqb-true b 10 e))))
      (λ l. further (b ∷ []) b n (suc n) bs (omega arith) (λ c t h. plain b c t (rw (q, s, l) refl) h) (quote_end (suc n) bs) (quote_sound (suc n) bs))))

  quote_sound_behind_quote : (n : ℕ) (bs : Bytes) → IsEnd n (39 ∷ bs) (end_behind_quote n bs)
  quote_sound_behind_quote n [] = ([], [], [], refl, omega arith, nothing, refl)
  quote_sound_behind_quote n (d ∷ bs) =
      either_way (IsEnd n (39 ∷ d ∷ bs)) (nat_eq d 39) (quote_end (suc (suc n)) bs) (Closed n)
      (λ e. subst (λ (x : ℕ). IsEnd n (39 ∷ x ∷ bs) (quote_end (suc (suc n)) bs)) (sym (eqb-true d 39 e))
      (further (39 ∷ 39 ∷ []) 39 n (suc (suc n)) bs (omega arith) doubled_quote (quote_end (suc (suc n)) bs) (quote_sound (suc (suc n)) bs)))
      (λ e. ([], [], d ∷ bs, refl, omega arith, nothing, other d e))

  quote_sound_behind_backslash : (n : ℕ) (bs : Bytes) → IsEnd n (92 ∷ bs) (end_behind_backslash n bs)
  quote_sound_behind_backslash n [] = inr ([], [], refl, nothing)
  quote_sound_behind_backslash n (d ∷ bs) =
      either_way (IsEnd n (92 ∷ d ∷ bs)) (is_escaped d) (quote_end (suc (suc n)) bs) _
      (λ e. let k = escape_of d e in further (92 ∷ d ∷ []) k.0 n (suc (suc n)) bs (omega arith) k.1 (quote_end (suc (suc n)) bs) (quote_sound (suc (suc n)) bs))
      (λ e. either_way (IsEnd n (92 ∷ d ∷ bs)) (nat_eq d 10) Newline (Unknown n)
      (λ f. ([], [], bs, nothing, inr (ap (λ (x : ℕ). 92 ∷ x ∷ bs) (eqb-true d 10 f))))
      (λ f. ([], [], bs, d, refl, omega arith, nothing, unknown_known d e f)))

-- ---- names that are written

no_escape : (b : ℕ) → holds_of_some (nat_eq b) (39 ∷ 92 ∷ 10 ∷ []) ≡ false → (nat_eq b 39 ≡ false) × (nat_eq b 92 ≡ false) × (nat_eq b 10 ≡ false)
no_escape b e =
    let f = or_false (nat_eq b 39) (nat_eq b 92 || (nat_eq b 10 || false)) e in
    let g = or_false (nat_eq b 92) (nat_eq b 10 || false) f.1 in
    (f.0, g.0, (or_false (nat_eq b 10) false g.1).0)

pub names_text : {c t : Bytes} → Names c t → text_between c ≡ t
names_text nothing = refl
names_text (plain b c t e h) =
    let k = no_escape b e in
    second_choice (nat_eq b 39 || nat_eq b 92) _ _ (both_false (nat_eq b 39) (nat_eq b 92) k.0 k.1) ∙ ap (λ (x : Bytes). b ∷ x) (names_text h)
names_text (doubled_quote c t h) = ap (λ (x : Bytes). 39 ∷ x) (names_text h)
names_text (escaped_quote c t h) = ap (λ (x : Bytes). 39 ∷ x) (names_text h)
names_text (escaped_backslash c t h) = ap (λ (x : Bytes). 92 ∷ x) (names_text h)
names_text (escaped_newline c t h) = ap (λ (x : Bytes). 10 ∷ x) (names_text h)

past_one : (n m : ℕ) (rest : Bytes) → quote_end (suc n + m) rest ≡ quote_end (n + suc m) rest
past_one n m rest = ap (λ (k : ℕ). quote_end k rest) (omega arith)

past_two : (n m : ℕ) (rest : Bytes) → quote_end (suc (suc n) + m) rest ≡ quote_end (n + suc (suc m)) rest
past_two n m rest = ap (λ (k : ℕ). quote_end k rest) (omega arith)

-- what names a text is passed over
pub names_passed : {c t : Bytes} → Names c t → (n : ℕ) (rest : Bytes) → quote_end n (c ++ rest) ≡ quote_end (n + length c) rest
names_passed nothing n rest = ap (λ (k : ℕ). quote_end k rest) (omega arith)
names_passed (plain b c t e h) n rest =
    let k = no_escape b e in
    second_choice (nat_eq b 39) _ _ k.0 ∙ second_choice (nat_eq b 92) _ _ k.1 ∙ second_choice (nat_eq b 10) _ _ k.2 ∙ names_passed h (suc n) rest
    ∙ past_one n (length c) rest
names_passed (doubled_quote c t h) n rest = names_passed h (suc (suc n)) rest ∙ past_two n (length c) rest
names_passed (escaped_quote c t h) n rest = names_passed h (suc (suc n)) rest ∙ past_two n (length c) rest
names_passed (escaped_backslash c t h) n rest = names_passed h (suc (suc n)) rest ∙ past_two n (length c) rest
names_passed (escaped_newline c t h) n rest = names_passed h (suc (suc n)) rest ∙ past_two n (length c) rest

pub closed_there : (n : ℕ) (rest : Bytes) → begins (nat_eq 39) rest ≡ false → quote_end n (39 ∷ rest) ≡ Closed n
closed_there n [] e = refl
closed_there n (d ∷ rest) e = second_choice (nat_eq d 39) _ _ (other_way d e)
  where
    other_way : (d : ℕ) → nat_eq 39 d ≡ false → nat_eq d 39 ≡ false
    other_way d e = grind (arith, nat_tests)

pub unknown_there : (n b : ℕ) (rest : Bytes) → is_known b ≡ false → quote_end n (92 ∷ b ∷ rest) ≡ Unknown n
unknown_there n b rest e =
    let f : is_escaped b ≡ false = grind (arith, nat_tests) in
    let g : nat_eq b 10 ≡ false = grind (arith, nat_tests) in
    second_choice (is_escaped b) _ _ f ∙ second_choice (nat_eq b 10) _ _ g

-- the text behind the last byte
pub text_done : (text items : Bytes) (escaped : Bool) (i : ℕ) → length items ≤ i
    → text ++ cond escaped (text_behind_escape (drop i items)) (text_between (drop i items)) ≡ text_between items → text ≡ text_between items
text_done text items escaped i past e =
    let none : drop i items ≡ [] = drop_all i items past in
    let empty : cond escaped (text_behind_escape (drop i items)) (text_between (drop i items)) ≡ [] =
    either_way (λ (x : Bytes). x ≡ []) escaped (text_behind_escape (drop i items)) (text_between (drop i items)) (λ _. ap text_behind_escape none)
    (λ _. ap text_between none) in
    sym (append-nil text) ∙ ap (λ (x : Bytes). text ++ x) (sym empty) ∙ e

-- the bytes between the quotes
pub inner_bytes : (token c : Bytes) → token ≡ 39 ∷ (c ++ 39 ∷ []) → take (length token - 1 - 1) (drop 1 token) ≡ c
inner_bytes token c e =
    let len : length c ≡ length token - 1 - 1 = omega (arith, ap length e, length-append c (39 ∷ [])) in
    ap (λ (x : Bytes). take (length token - 1 - 1) (drop 1 x)) e ∙ take_at c (39 ∷ []) (length token - 1 - 1) len
