-- What is found is what stands there.
use Rattle.std.proofs.Common.{ℕ, suc, ◌+◌, ◌-◌, ◌≡◌, ◌≤◌, ◌<◌, Bool, true, false, ltb, ◌&&◌, [], ◌∷◌, ◌++◌, length, take, drop, refl, sym, ap, subst, ◌∙◌}
use Rattle.std.proofs.Common.{arith, inl, inr, ◌⊎◌, append_assoc}
use Rattle.std.specs.Prelude.{codes, nat_eq, leb}
use Rattle.std.specs.List.{prefix_len}
use Rattle.std.specs.Str.{bytes_eq}
use Rattle.std.proofs.lemmas.Bool.Decides.{nat_tests}
use Rattle.std.proofs.lemmas.List.{take-append-drop, append-nil, length-append, take_at, drop_at, drop-take, length-take-le}
use Rattle.std.proofs.lemmas.Bool.{eqb-true, leb-true}
use Rattle.std.proofs.lemmas.Slice.Eq.{bytes_eq-Decides}
use Rattle.and_model.specs.Lines.{Bytes, is_small, is_word, is_symbol, holds_of_all, is_plain_name, begins_comment}
use Rattle.and_language.specs.Tokens.{Kind, variable, name, quoted, symbol, integer, open_bracket, close_bracket, open_list, close_list, open_brace}
use Rattle.and_language.specs.Tokens.{close_brace, comma, semicolon, bar, end_of_clause, syntax, too_wide, not_pure, is_capital, is_digit, is_impure}
use Rattle.and_language.specs.Tokens.{is_impure_character, is_variable, is_numeral, is_run, goes_on, ends_clause, number_of, broken, is_separated}
use Rattle.and_language.specs.Tokens.{closes_comment, Separates, is_some, Answer, no_more, one, none_for, Next, finished, read, stopped, IsFront, Comes}
use Rattle.and_language.specs.Tokens.{IsToken, IsFault, bytes_at_fault, open_comment, open_quote, open_escape, raw_newline, escaped_raw_newline}
use Rattle.and_language.specs.Tokens.{unknown_escape, numeral_goes_on, wide_numeral, impure_symbol, impure_character, other_character}
use Rattle.and_lex.specs.Scanning.{Found, end_of_text, one_token, one_fault, numeral_found, symbol_found, quoted_found, found_at_quote_end, single_found}
use Rattle.and_lex.specs.Scanning.{found_at, IsWithin}
use Rattle.and_lex.specs.declared.quotes.QuoteEnd.{QuoteEnd}
use Rattle.and_lex.specs.declared.quotes.QuoteEnd.TheVariants.{Closed, Open, Newline, Unknown}
use Rattle.and_lex.specs.Quoting.{quote_end}
use Rattle.and_lex.proofs.Quoted.{IsEnd, quote_sound}
use Rattle.and_lex.proofs.Choices.{either_way, and_true, both_true, not_true}
use Rattle.and_lex.proofs.Fronts.{front, behind, front_more, parts, all_front, none_behind}

-- what was found begins the bytes
abbrev pub IsFound : Bool → ℕ → Bytes → Found → Type 0
IsFound cut p bs end_of_text = (bs ≡ []) × (cut ≡ false)
IsFound cut p bs (one_token k n) = IsToken cut k (take n bs) (drop n bs)
IsFound cut p bs (one_fault f) = IsFault cut p bs f

-- a token of that length
token_of_len : (cut : Bool) (p : ℕ) (bs : Bytes) (k : Kind) (t rest : Bytes) (n : ℕ) → bs ≡ t ++ rest → length t ≡ n → IsToken cut k t rest
    → IsFound cut p bs (one_token k n)
token_of_len cut p bs k t rest n e len h =
    let taken : take n bs ≡ t = ap (take n) e ∙ take_at t rest n len in
    let dropped : drop n bs ≡ rest = ap (drop n) e ∙ drop_at t rest n len in
    subst (λ (x : Bytes). IsToken cut k x (drop n bs)) (sym taken) (subst (IsToken cut k t) (sym dropped) h)

pub small_word : (b : ℕ) → is_small b ≡ true → is_word b ≡ true
small_word b e = rw e refl

pub capital_word : (b : ℕ) → is_capital b ≡ true → is_word b ≡ true
capital_word b e = grind (arith, nat_tests)

variable_found : (cut : Bool) (p b : ℕ) (bs : Bytes) → is_capital b ≡ true → IsFound cut p (b ∷ bs) (one_token variable (prefix_len is_word (b ∷ bs)))
variable_found cut p b bs e =
    let w = capital_word b e in
    let form : is_variable (b ∷ front is_word bs) ≡ true = both_true (is_capital b) (holds_of_all is_word (front is_word bs)) e (all_front is_word bs) in
    (ap is_variable (front_more is_word b bs w) ∙ form, none_behind is_word (b ∷ bs))

name_found : (cut : Bool) (p b : ℕ) (bs : Bytes) → is_small b ≡ true → IsFound cut p (b ∷ bs) (one_token name (prefix_len is_word (b ∷ bs)))
name_found cut p b bs e =
    let w = small_word b e in
    let form : is_plain_name (b ∷ front is_word bs) ≡ true = both_true (is_small b) (holds_of_all is_word (front is_word bs)) e (all_front is_word bs) in
    (ap is_plain_name (front_more is_word b bs w) ∙ form, none_behind is_word (b ∷ bs))

above : (n m : ℕ) → leb n m ≡ false → m < n
above n m e = grind (arith, nat_tests)

integer_found : (cut : Bool) (p b : ℕ) (bs : Bytes) → is_digit b ≡ true
    → IsFound cut p (b ∷ bs) (numeral_found p (front is_digit (b ∷ bs)) (behind is_digit (b ∷ bs)))
integer_found cut p b bs e =
    let ds = front is_digit (b ∷ bs) in
    let rest = behind is_digit (b ∷ bs) in
    let split : b ∷ bs ≡ ds ++ rest = parts is_digit (b ∷ bs) in
    let form : is_numeral ds ≡ true = ap is_numeral (front_more is_digit b bs e)
    ∙ both_true (is_digit b) (holds_of_all is_digit (front is_digit bs)) e (all_front is_digit bs) in
    let last = none_behind is_digit (b ∷ bs) in
    either_way (IsFound cut p (b ∷ bs)) (goes_on rest) (one_fault (not_pure p)) _ (λ g. numeral_goes_on ds rest split form last g)
    (λ g. either_way (IsFound cut p (b ∷ bs)) (leb (number_of ds) 9223372036854775808) (one_token (integer (number_of ds)) (length ds)) (one_fault (too_wide p))
    (λ l. token_of_len cut p (b ∷ bs) (integer (number_of ds)) ds rest (length ds) split refl (
      form,
      last,
      g,
      refl,
      leb-true (number_of ds) 9223372036854775808 l,
    ))
    (λ l. wide_numeral ds rest split form last g (above (number_of ds) 9223372036854775808 l)))

-- ---- symbols

comment_of_run : (run : Bytes) → begins_comment run ≡ true → (c : Bytes) × (run ≡ 47 ∷ 42 ∷ c)
comment_of_run [] e = absurd cc
comment_of_run (b ∷ []) e = absurd cc
comment_of_run (b ∷ d ∷ run) e =
    let a = and_true (nat_eq b 47) (nat_eq d 42) e in
    (run, ap (λ (x : ℕ). x ∷ d ∷ run) (eqb-true b 47 a.0) ∙ ap (λ (x : ℕ). 47 ∷ x ∷ run) (eqb-true d 42 a.1))

-- a comment that begins what is separated is not closed
never_closed : (c : Bytes) → is_separated (47 ∷ 42 ∷ c) ≡ true → closes_comment c ≡ false
never_closed c e = not_true (closes_comment c) e

pub false_of : (b : Bool) → (b ≡ true → ⊥) → b ≡ false
false_of true h = absurd (h refl)
false_of false h = refl

symbol_found_there : (cut : Bool) (p b : ℕ) (bs : Bytes) → is_symbol b ≡ true → is_separated (b ∷ bs) ≡ true
    → IsFound cut p (b ∷ bs) (symbol_found cut p (front is_symbol (b ∷ bs)) (behind is_symbol (b ∷ bs)))
symbol_found_there cut p b bs e sep =
    let run = front is_symbol (b ∷ bs) in
    let rest = behind is_symbol (b ∷ bs) in
    let split : b ∷ bs ≡ run ++ rest = parts is_symbol (b ∷ bs) in
    let form : is_run run ≡ true = ap is_run (front_more is_symbol b bs e)
    ∙ both_true (is_symbol b) (holds_of_all is_symbol (front is_symbol bs)) e (all_front is_symbol bs) in
    let last = none_behind is_symbol (b ∷ bs) in
    let len : p + length run + length rest ≡ p + length (b ∷ bs) = omega (arith, ap length split, length-append run rest) in
    let P = IsFound cut p (b ∷ bs) in
    either_way P (begins_comment run) (one_fault (broken cut p (p + length run + length rest))) _
    (λ g. let k = comment_of_run run g in
    let whole : b ∷ bs ≡ 47 ∷ 42 ∷ (k.0 ++ rest) = split ∙ ap (λ (x : Bytes). x ++ rest) k.1 in
    subst (λ (n : ℕ). IsFault cut p (b ∷ bs) (broken cut p n)) (sym len)
    (open_comment (k.0 ++ rest) whole (never_closed (k.0 ++ rest) (sym (ap is_separated whole) ∙ sep))))
    (λ g. either_way P (is_impure run) (one_fault (not_pure p)) _ (λ i. impure_symbol run rest split last i)
    (λ i. either_way P (bytes_eq run (codes ".") && ends_clause cut rest) (one_token end_of_clause 1) (one_token symbol (length run))
    (λ j. let a = and_true (bytes_eq run (codes ".")) (ends_clause cut rest) j in
    let point : run ≡ codes "." = (bytes_eq-Decides run (codes ".")).0 a.0 in
    token_of_len cut p (b ∷ bs) end_of_clause run rest 1 split (ap length point) (point, a.1))
    (λ j. token_of_len cut p (b ∷ bs) symbol run rest (length run) split refl (
      form,
      last,
      g,
      i,
      (λ point. false_of (ends_clause cut rest)
          (λ d. absurd (cc (sym j ∙ both_true (bytes_eq run (codes ".")) (ends_clause cut rest) ((bytes_eq-Decides run (codes ".")).1 point) d)))),
    ))))

-- ---- single characters

solo_found : (cut : Bool) (p b d : ℕ) (bs : Bytes) (k : Kind) → nat_eq b d ≡ true → IsToken cut k (d ∷ []) bs → IsFound cut p (b ∷ bs) (one_token k 1)
solo_found cut p b d bs k e h = token_of_len cut p (b ∷ bs) k (d ∷ []) bs 1 (ap (λ (x : ℕ). x ∷ bs) (eqb-true b d e)) refl h

single_found_there : (cut : Bool) (p b : ℕ) (bs : Bytes) → is_word b ≡ false → is_symbol b ≡ false → nat_eq b 39 ≡ false
    → IsFound cut p (b ∷ bs) (single_found p b)
single_found_there cut p b bs w s q =
    let P = IsFound cut p (b ∷ bs) in
    either_way P (nat_eq b 40) (one_token open_bracket 1) _ (λ e. solo_found cut p b 40 bs open_bracket e refl) (λ n0.
    either_way P (nat_eq b 41) (one_token close_bracket 1) _ (λ e. solo_found cut p b 41 bs close_bracket e refl) (λ n1.
    either_way P (nat_eq b 91) (one_token open_list 1) _ (λ e. solo_found cut p b 91 bs open_list e refl) (λ n2.
    either_way P (nat_eq b 93) (one_token close_list 1) _ (λ e. solo_found cut p b 93 bs close_list e refl) (λ n3.
    either_way P (nat_eq b 123) (one_token open_brace 1) _ (λ e. solo_found cut p b 123 bs open_brace e refl) (λ n4.
    either_way P (nat_eq b 125) (one_token close_brace 1) _ (λ e. solo_found cut p b 125 bs close_brace e refl) (λ n5.
    either_way P (nat_eq b 44) (one_token comma 1) _ (λ e. solo_found cut p b 44 bs comma e refl) (λ n6.
    either_way P (nat_eq b 59) (one_token semicolon 1) _ (λ e. solo_found cut p b 59 bs semicolon e refl) (λ n7.
    either_way P (nat_eq b 124) (one_token bar 1) _ (λ e. solo_found cut p b 124 bs bar e refl) (λ n8.
    either_way P (is_impure_character b) (one_fault (not_pure p)) (one_fault (syntax p)) (λ e. impure_character b bs refl e) (λ n9.
    other_character b bs refl (rw (w, s, n0, n1, n2, n3, n4, n5, n6, n7, n8, q, n9) refl)))))))))))

-- ---- quoted tokens

found_at_end : (cut : Bool) (p : ℕ) (bs : Bytes) (e : QuoteEnd) → IsEnd 0 bs e → IsFound cut p (39 ∷ bs) (found_at_quote_end cut p (length bs) e)
found_at_end cut p bs (Closed m) h =
    let t : Bytes = 39 ∷ (h.0 ++ 39 ∷ []) in
    let split : 39 ∷ bs ≡ t ++ h.2 = ap (λ (x : Bytes). 39 ∷ x) (h.3 ∙ sym (append_assoc h.0 (39 ∷ []) h.2)) in
    token_of_len cut p (39 ∷ bs) quoted t h.2 (suc (suc m)) split (omega (arith, h.4, length-append h.0 (39 ∷ []))) ((h.1, (h.0, refl, h.5)), h.6)
found_at_end cut p bs Open (inl h) = open_quote bs h.0 refl h.1
found_at_end cut p bs Open (inr h) = open_escape h.0 h.1 (ap (λ (x : Bytes). 39 ∷ x) h.2) h.3
found_at_end cut p bs Newline h = either h.4
  where
    either : (bs ≡ h.0 ++ 10 ∷ h.2) ⊎ (bs ≡ h.0 ++ 92 ∷ 10 ∷ h.2) → IsFault cut p (39 ∷ bs) (syntax p)
    either (inl e) = raw_newline h.0 h.1 h.2 (ap (λ (x : Bytes). 39 ∷ x) e) h.3
    either (inr e) = escaped_raw_newline h.0 h.1 h.2 (ap (λ (x : Bytes). 39 ∷ x) e) h.3
found_at_end cut p bs (Unknown m) h =
    let place : p + suc (length h.0) ≡ p + suc m = omega (arith, h.5) in
    subst (λ (n : ℕ). IsFault cut p (39 ∷ bs) (not_pure n)) place (unknown_escape h.0 h.1 h.2 h.3 (ap (λ (x : Bytes). 39 ∷ x) h.4) h.6 h.7)

-- ---- all that can stand there

no_word : (b : ℕ) → is_capital b ≡ false → is_small b ≡ false → is_digit b ≡ false → is_word b ≡ false
no_word b c s d = grind (arith, nat_tests)

pub found_sound : (cut : Bool) (p : ℕ) (bs : Bytes) → is_separated bs ≡ true → IsFound cut p bs (found_at cut p bs)
found_sound true p [] e = bytes_at_fault refl refl
found_sound false p [] e = (refl, refl)
found_sound cut p (b ∷ bs) e =
    let P = IsFound cut p (b ∷ bs) in
    let word = prefix_len is_word (b ∷ bs) in
    either_way P (is_capital b) (one_token variable word) _ (variable_found cut p b bs) (λ n0.
    either_way P (is_small b) (one_token name word) _ (name_found cut p b bs) (λ n1.
    either_way P (is_digit b) (numeral_found p (front is_digit (b ∷ bs)) (behind is_digit (b ∷ bs))) _ (integer_found cut p b bs) (λ n2.
    either_way P (is_symbol b) (symbol_found cut p (front is_symbol (b ∷ bs)) (behind is_symbol (b ∷ bs))) _ (λ s. symbol_found_there cut p b bs s e) (λ n3.
    either_way P (nat_eq b 39) (quoted_found cut p bs) (single_found p b)
    (λ q. subst (λ (x : ℕ). IsFound cut p (x ∷ bs) (quoted_found cut p bs)) (sym (eqb-true b 39 q)) (found_at_end cut p bs (quote_end 0 bs) (quote_sound 0 bs)))
    (single_found_there cut p b bs (no_word b n0 n1 n2) n3)))))

-- ---- what comes next

-- the answer where that was found behind a gap
abbrev pub answer_behind : ℕ → ℕ → Found → Answer
answer_behind p gap end_of_text = no_more
answer_behind p gap (one_token k n) = one (record { kind = k; start = p + gap; end = p + gap + n; layout_before = ltb 0 gap })
answer_behind p gap (one_fault f) = none_for f

pub some_is : (bs : Bytes) → is_some bs ≡ ltb 0 (length bs)
some_is [] = refl
some_is (b ∷ bs) = grind (arith, nat_tests)

next_is : (cut : Bool) (p : ℕ) (g r : Bytes) (gap : ℕ) → length g ≡ gap → Separates g r → is_separated r ≡ true → (f : Found) → IsFound cut (p + gap) r f
    → IsWithin (length r) f
    → Next cut p (g ++ r) (answer_behind p gap f)
next_is cut p g r gap len s sep end_of_text h w =
    let all : Separates (g ++ r) [] =
    subst (λ (x : Bytes). Separates x []) (sym (append-nil g) ∙ ap (λ (x : Bytes). g ++ x) (sym h.0)) (subst (Separates g) h.0 s) in
    finished all h.1
next_is cut p g r gap len s sep (one_token k n) h w =
    let split : r ≡ take n r ++ drop n r = sym (take-append-drop n r) in
    let size : length (take n r) ≡ n = length-take-le n r w.1 in
    let made : Next cut p (g ++ r) (one (record { kind = k; start = p + length g; end = p + length g + length (take n r); layout_before = is_some g })) =
    read g (take n r) (drop n r) k (ap (λ (x : Bytes). g ++ x) split) (subst (Separates g) split s) (sym (ap is_separated split) ∙ sep) h in
    let A : ℕ → ℕ → Bool → Type 0 = λ i j l. Next cut p (g ++ r) (one (record { kind = k; start = p + i; end = p + i + j; layout_before = l })) in
    subst (λ (l : Bool). A gap n l) (some_is g ∙ ap (λ (i : ℕ). ltb 0 i) len)
    (subst (λ (j : ℕ). A gap j (is_some g)) size (subst (λ (i : ℕ). A i (length (take n r)) (is_some g)) len made))
next_is cut p g r gap len s sep (one_fault f) h w = stopped g r f refl s sep (subst (λ (i : ℕ). IsFault cut (p + i) r f) (sym len) h)

pub next_found : (cut : Bool) (p gap : ℕ) (bs rest : Bytes) → rest ≡ drop gap bs → gap ≤ length bs → Separates (take gap bs) (drop gap bs)
    → is_separated (drop gap bs) ≡ true
    → (f : Found) → f ≡ found_at cut (p + gap) rest → IsWithin (length rest) f → Next cut p bs (answer_behind p gap f)
next_found cut p gap bs rest same small s sep f e w =
    let behind : Separates (take gap bs) rest = subst (Separates (take gap bs)) (sym same) s in
    let separated : is_separated rest ≡ true = ap is_separated same ∙ sep in
    let h : IsFound cut (p + gap) rest f = subst (IsFound cut (p + gap) rest) (sym e) (found_sound cut (p + gap) rest separated) in
    let whole : take gap bs ++ rest ≡ bs = ap (λ (x : Bytes). take gap bs ++ x) same ∙ take-append-drop gap bs in
    subst (λ (x : Bytes). Next cut p x (answer_behind p gap f)) whole
    (next_is cut p (take gap bs) rest gap (length-take-le gap bs small) behind separated f h w)

pub comes_next : (text : Bytes) (valid place : ℕ) (a : Answer) → IsFront text valid → place ≤ valid
    → Next (ltb valid (length text)) place (take (valid - place) (drop place text)) a → Comes text place a
comes_next text valid place a front small next =
    let sum : place + (valid - place) ≡ valid = omega arith in
    let same : take (valid - place) (drop place text) ≡ drop place (take valid text) =
    sym (drop-take place (valid - place) text) ∙ ap (λ (n : ℕ). drop place (take n text)) sum in
    (valid, front, subst (λ (x : Bytes). Next (ltb valid (length text)) place x a) same next)
