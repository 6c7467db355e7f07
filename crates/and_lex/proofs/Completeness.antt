-- What stands there is what is found, and so there is one answer.
use Rattle.std.proofs.Common.{ℕ, suc, ◌+◌, ◌≡◌, ◌≤◌, ◌<◌, Bool, true, false, true≢false, not, cond, ltb, ◌&&◌, ◌||◌, List, [], ◌∷◌, ◌++◌, length, take, drop}
use Rattle.std.proofs.Common.{refl, sym, ap, subst, ◌∙◌, arith, inl, inr, append_assoc}
use Rattle.std.specs.Prelude.{codes, nat_eq, leb, IsUtf8}
use Rattle.std.specs.Str.{bytes_eq}
use Rattle.std.proofs.lemmas.Bool.Decides.{nat_tests}
use Rattle.std.proofs.lemmas.List.{append-nil, length-append, take_at, drop_at, take_all, append_cancel_left}
use Rattle.std.proofs.lemmas.Bool.{eqb-true, le-leb, cases_lt}
use Rattle.std.proofs.lemmas.Slice.Eq.{bytes_eq-Decides}
use Rattle.and_model.specs.Lines.{Bytes, is_small, is_word, is_symbol, holds_of_all, holds_of_some, begins_comment}
use Rattle.and_language.specs.Tokens.{Kind, variable, name, quoted, symbol, integer, open_bracket, close_bracket, open_list, close_list, open_brace}
use Rattle.and_language.specs.Tokens.{close_brace, comma, semicolon, bar, end_of_clause, Fault, syntax, not_text, not_pure, begins, is_layout, is_capital}
use Rattle.and_language.specs.Tokens.{is_digit, is_impure, is_impure_character, is_solo, is_numeral, is_run, goes_on, ends_clause, number_of, broken}
use Rattle.and_language.specs.Tokens.{is_separated, Separates, is_some, Token, Answer, one, none_for, Next, finished, read, stopped, IsFront, Comes}
use Rattle.and_language.specs.Tokens.{HasTokens, no_token, token, is_last, IsToken, Names, IsFault, bytes_at_fault, open_comment, open_quote, open_escape}
use Rattle.and_language.specs.Tokens.{raw_newline, escaped_raw_newline, unknown_escape, numeral_goes_on, wide_numeral, impure_symbol, impure_character}
use Rattle.and_language.specs.Tokens.{other_character}
use Rattle.and_lex.specs.declared.quotes.QuoteEnd.{QuoteEnd}
use Rattle.and_lex.specs.declared.quotes.QuoteEnd.TheVariants.{Closed, Open, Newline, Unknown}
use Rattle.and_lex.specs.Quoting.{quote_end}
use Rattle.and_lex.specs.Scanning.{end_of_text, one_token, one_fault, numeral_found, symbol_found, found_at_quote_end, found_at}
use Rattle.and_lex.proofs.Choices.{first_choice, second_choice, and_true, both_true, or_false, both_false, not_true}
use Rattle.and_lex.proofs.Fronts.{front, behind, front_more, parts, len_is}
use Rattle.and_lex.proofs.Quoted.{names_passed, closed_there, unknown_there}
use Rattle.and_lex.proofs.Separators.{one_gap}
use Rattle.and_lex.proofs.Soundness.{small_word, capital_word, false_of, some_is, answer_behind}

-- ---- sorts of bytes

-- one of these bytes passes a test that they all pass
one_of : (q : ℕ → Bool) (b : ℕ) (cs : Bytes) → holds_of_some (nat_eq b) cs ≡ true → holds_of_all q cs ≡ true → q b ≡ true
one_of q b [] e h = absurd cc
one_of q b (c ∷ cs) e h =
    let P : Bool → Type 0 = λ v. nat_eq b c ≡ v → q b ≡ true in
    let a = and_true (q c) (holds_of_all q cs) h in
    elim (nat_eq b c) as P [
      | true ↦ λ k. ap q (eqb-true b c k) ∙ a.0
      | false ↦ λ k. one_of q b cs (sym (ap (λ (v : Bool). v || holds_of_some (nat_eq b) cs) k) ∙ e) a.1
    ] refl

-- a byte that is in no word begins no word and no numeral
no_word_parts : (b : ℕ) → is_word b ≡ false → (is_capital b ≡ false) × (is_small b ≡ false) × (is_digit b ≡ false)
no_word_parts b e = (grind (arith, nat_tests), grind (arith, nat_tests), grind (arith, nat_tests))

symbol_no_word : (b : ℕ) → is_symbol b ≡ true → is_word b ≡ false
symbol_no_word b e = not_true (is_word b) (one_of (λ c. not (is_word c)) b (codes "+-*/\\^<>=~:.?@#&$") e refl)

small_no_capital : (b : ℕ) → is_small b ≡ true → is_capital b ≡ false
small_no_capital b e = grind (arith, nat_tests)

digit_no_letter : (b : ℕ) → is_digit b ≡ true → (is_capital b ≡ false) × (is_small b ≡ false)
digit_no_letter b e = (grind (arith, nat_tests), grind (arith, nat_tests))

-- ---- fronts

front_is : (q : ℕ → Bool) (xs rest : Bytes) → holds_of_all q xs ≡ true → begins q rest ≡ false → (front q (xs ++ rest) ≡ xs) × (behind q (xs ++ rest) ≡ rest)
front_is q xs rest h e =
    let len = len_is q xs rest h e in
    (ap (λ (n : ℕ). take n (xs ++ rest)) len ∙ take_at xs rest (length xs) refl, ap (λ (n : ℕ). drop n (xs ++ rest)) len ∙ drop_at xs rest (length xs) refl)

numeral_there : (cut : Bool) (p : ℕ) (ds rest : Bytes) → is_numeral ds ≡ true → begins is_digit rest ≡ false
    → found_at cut p (ds ++ rest) ≡ numeral_found p ds rest
numeral_there cut p [] rest h e = absurd cc
numeral_there cut p (b ∷ w) rest h e =
    let d : is_digit b ≡ true = (and_true (is_digit b) (holds_of_all is_digit w) h).0 in
    let k = digit_no_letter b d in
    let f = front_is is_digit (b ∷ w) rest h e in
    second_choice (is_capital b) _ _ k.0 ∙ second_choice (is_small b) _ _ k.1 ∙ first_choice (is_digit b) _ _ d
    ∙ ap (λ (c : Bytes). numeral_found p c (behind is_digit ((b ∷ w) ++ rest))) f.0 ∙ ap (numeral_found p (b ∷ w)) f.1

run_there : (cut : Bool) (p : ℕ) (t rest : Bytes) → is_run t ≡ true → begins is_symbol rest ≡ false → found_at cut p (t ++ rest) ≡ symbol_found cut p t rest
run_there cut p [] rest h e = absurd cc
run_there cut p (b ∷ w) rest h e =
    let s : is_symbol b ≡ true = (and_true (is_symbol b) (holds_of_all is_symbol w) h).0 in
    let k = no_word_parts b (symbol_no_word b s) in
    let f = front_is is_symbol (b ∷ w) rest h e in
    second_choice (is_capital b) _ _ k.0 ∙ second_choice (is_small b) _ _ k.1 ∙ second_choice (is_digit b) _ _ k.2 ∙ first_choice (is_symbol b) _ _ s
    ∙ ap (λ (c : Bytes). symbol_found cut p c (behind is_symbol ((b ∷ w) ++ rest))) f.0 ∙ ap (symbol_found cut p (b ∷ w)) f.1

-- behind the end of a clause is no symbol character
no_symbol : (b : ℕ) → is_layout b || nat_eq b 37 ≡ true → is_symbol b ≡ false
no_symbol b e = grind (arith, nat_tests)

ended_run : (cut : Bool) (rest : Bytes) → ends_clause cut rest ≡ true → begins is_symbol rest ≡ false
ended_run cut [] e = refl
ended_run cut (b ∷ rest) e = no_symbol b e

quoted_there : (cut : Bool) (p : ℕ) (c t rest : Bytes) (e : QuoteEnd) → Names c t → quote_end (length c) rest ≡ e
    → found_at cut p (39 ∷ (c ++ rest)) ≡ found_at_quote_end cut p (length (c ++ rest)) e
quoted_there cut p c t rest e h k =
    let zero_less : quote_end (0 + length c) rest ≡ quote_end (length c) rest = ap (λ (n : ℕ). quote_end n rest) (omega arith) in
    ap (found_at_quote_end cut p (length (c ++ rest))) (names_passed h 0 rest ∙ zero_less ∙ k)

-- ---- tokens

token_there : (cut : Bool) (p : ℕ) (k : Kind) (t rest : Bytes) → IsToken cut k t rest → found_at cut p (t ++ rest) ≡ one_token k (length t)
token_there cut p variable [] rest h = absurd (cc (h.0))
token_there cut p variable (b ∷ w) rest h =
    let a = and_true (is_capital b) (holds_of_all is_word w) h.0 in
    first_choice (is_capital b) _ _ a.0
    ∙ ap (one_token variable) (len_is is_word (b ∷ w) rest (both_true (is_word b) (holds_of_all is_word w) (capital_word b a.0) a.1) h.1)
token_there cut p name [] rest h = absurd (cc (h.0))
token_there cut p name (b ∷ w) rest h =
    let a = and_true (is_small b) (holds_of_all is_word w) h.0 in
    second_choice (is_capital b) _ _ (small_no_capital b a.0) ∙ first_choice (is_small b) _ _ a.0
    ∙ ap (one_token name) (len_is is_word (b ∷ w) rest (both_true (is_word b) (holds_of_all is_word w) (small_word b a.0) a.1) h.1)
token_there cut p quoted t rest h =
    let q = h.0.1 in
    let c = q.0 in
    let whole : t ++ rest ≡ 39 ∷ (c ++ 39 ∷ rest) = ap (λ (x : Bytes). x ++ rest) q.1 ∙ ap (λ (x : Bytes). 39 ∷ x) (append_assoc c (39 ∷ []) rest) in
    let len : suc (suc (length c)) ≡ length t = omega (arith, ap length q.1, length-append c (39 ∷ [])) in
    ap (found_at cut p) whole ∙ quoted_there cut p c h.0.0 (39 ∷ rest) (Closed (length c)) q.2 (closed_there (length c) rest h.1) ∙ ap (one_token quoted) len
token_there cut p symbol t rest h =
    let point = codes "." in
    let no_end : bytes_eq t point && ends_clause cut rest ≡ false = false_of (bytes_eq t point && ends_clause cut rest) (λ e.
    let a = and_true (bytes_eq t point) (ends_clause cut rest) e in absurd (cc (sym (h.4 ((bytes_eq-Decides t point).0 a.0)) ∙ a.1))) in
    run_there cut p t rest h.0 h.1 ∙ second_choice (begins_comment t) _ _ h.2 ∙ second_choice (is_impure t) _ _ h.3
    ∙ second_choice (bytes_eq t point && ends_clause cut rest) _ _ no_end
token_there cut p (integer z) t rest h =
    let small : number_of t ≤ 9223372036854775808 = omega (arith, h.3, h.4) in
    numeral_there cut p t rest h.0 h.1 ∙ second_choice (goes_on rest) _ _ h.2 ∙ first_choice (leb (number_of t) 9223372036854775808) _ _ (le-leb _ _ small)
    ∙ ap (λ (y : ℕ). one_token (integer y) (length t)) (sym h.3)
token_there cut p open_bracket t rest h = subst (λ (x : Bytes). found_at cut p (x ++ rest) ≡ one_token open_bracket (length x)) (sym h) refl
token_there cut p close_bracket t rest h = subst (λ (x : Bytes). found_at cut p (x ++ rest) ≡ one_token close_bracket (length x)) (sym h) refl
token_there cut p open_list t rest h = subst (λ (x : Bytes). found_at cut p (x ++ rest) ≡ one_token open_list (length x)) (sym h) refl
token_there cut p close_list t rest h = subst (λ (x : Bytes). found_at cut p (x ++ rest) ≡ one_token close_list (length x)) (sym h) refl
token_there cut p open_brace t rest h = subst (λ (x : Bytes). found_at cut p (x ++ rest) ≡ one_token open_brace (length x)) (sym h) refl
token_there cut p close_brace t rest h = subst (λ (x : Bytes). found_at cut p (x ++ rest) ≡ one_token close_brace (length x)) (sym h) refl
token_there cut p comma t rest h = subst (λ (x : Bytes). found_at cut p (x ++ rest) ≡ one_token comma (length x)) (sym h) refl
token_there cut p semicolon t rest h = subst (λ (x : Bytes). found_at cut p (x ++ rest) ≡ one_token semicolon (length x)) (sym h) refl
token_there cut p bar t rest h = subst (λ (x : Bytes). found_at cut p (x ++ rest) ≡ one_token bar (length x)) (sym h) refl
token_there cut p end_of_clause t rest h =
    let one_point : found_at cut p (46 ∷ rest) ≡ one_token end_of_clause 1 =
    run_there cut p (46 ∷ []) rest refl (ended_run cut rest h.1) ∙ first_choice (ends_clause cut rest) _ _ h.1 in
    subst (λ (x : Bytes). found_at cut p (x ++ rest) ≡ one_token end_of_clause (length x)) (sym h.0) one_point

-- ---- faults

impure_run : (s : Bytes) → is_impure s ≡ true → (is_run s ≡ true) × (begins_comment s ≡ false)
impure_run s e = first (bytes_eq s (codes "\\+")) refl
  where
    Fits : Bytes → Type 0
    Fits x = (is_run x ≡ true) × (begins_comment x ≡ false)

    second : (v : Bool) → bytes_eq s (codes "->") ≡ v → bytes_eq s (codes "\\+") ≡ false → Fits s
    second true l k = let P : Bytes → Type 0 = λ x. (is_run x ≡ true)
        × (begins_comment x ≡ false) in subst P (sym ((bytes_eq-Decides s (codes "->")).0 l)) (refl, refl)
    second false l k = absurd (cc (sym (both_false (bytes_eq s (codes "\\+")) (bytes_eq s (codes "->")) k l) ∙ e))

    first : (v : Bool) → bytes_eq s (codes "\\+") ≡ v → Fits s
    first true k = let P : Bytes → Type 0 = λ x. (is_run x ≡ true)
        × (begins_comment x ≡ false) in subst P (sym ((bytes_eq-Decides s (codes "\\+")).0 k)) (refl, refl)
    first false k = second (bytes_eq s (codes "->")) refl k

comment_there : (cut : Bool) (p : ℕ) (c : Bytes) → found_at cut p (47 ∷ 42 ∷ c) ≡ one_fault (broken cut p (p + length (47 ∷ 42 ∷ c)))
comment_there cut p c =
    let bs : Bytes = 47 ∷ 42 ∷ c in
    let run = front is_symbol bs in
    let rest = behind is_symbol bs in
    let opened : run ≡ 47 ∷ 42 ∷ front is_symbol c = front_more is_symbol 47 (42 ∷ c) refl ∙ ap (λ (x : Bytes). 47 ∷ x) (front_more is_symbol 42 c refl) in
    let len : p + length run + length rest ≡ p + length bs = omega (arith, ap length (parts is_symbol bs), length-append run rest) in
    first_choice (begins_comment run) (one_fault (broken cut p (p + length run + length rest))) _ (ap begins_comment opened)
    ∙ ap (λ (n : ℕ). one_fault (broken cut p n)) len

above_all : (n m : ℕ) → m < n → leb n m ≡ false
above_all n m h = grind (arith, nat_tests)

character_there : (cut : Bool) (p b : ℕ) (rest : Bytes) → is_word b ≡ false → is_symbol b ≡ false → is_solo b ≡ false
    → found_at cut p (b ∷ rest) ≡ cond (is_impure_character b) (one_fault (not_pure p)) (one_fault (syntax p))
character_there cut p b rest w s o =
    let k = no_word_parts b w in
    let n0 = or_false (nat_eq b 40) (holds_of_some (nat_eq b) (codes ")[]{},;|'")) o in
    let n1 = or_false (nat_eq b 41) (holds_of_some (nat_eq b) (codes "[]{},;|'")) n0.1 in
    let n2 = or_false (nat_eq b 91) (holds_of_some (nat_eq b) (codes "]{},;|'")) n1.1 in
    let n3 = or_false (nat_eq b 93) (holds_of_some (nat_eq b) (codes "{},;|'")) n2.1 in
    let n4 = or_false (nat_eq b 123) (holds_of_some (nat_eq b) (codes "},;|'")) n3.1 in
    let n5 = or_false (nat_eq b 125) (holds_of_some (nat_eq b) (codes ",;|'")) n4.1 in
    let n6 = or_false (nat_eq b 44) (holds_of_some (nat_eq b) (codes ";|'")) n5.1 in
    let n7 = or_false (nat_eq b 59) (holds_of_some (nat_eq b) (codes "|'")) n6.1 in
    let n8 = or_false (nat_eq b 124) (holds_of_some (nat_eq b) (codes "'")) n7.1 in
    let n9 = or_false (nat_eq b 39) false n8.1 in
    second_choice (is_capital b) _ _ k.0 ∙ second_choice (is_small b) _ _ k.1 ∙ second_choice (is_digit b) _ _ k.2 ∙ second_choice (is_symbol b) _ _ s
    ∙ second_choice (nat_eq b 39) _ _ n9.0
    ∙ second_choice (nat_eq b 40) _ _ n0.0 ∙ second_choice (nat_eq b 41) _ _ n1.0 ∙ second_choice (nat_eq b 91) _ _ n2.0 ∙ second_choice (nat_eq b 93) _ _ n3.0
    ∙ second_choice (nat_eq b 123) _ _ n4.0 ∙ second_choice (nat_eq b 125) _ _ n5.0 ∙ second_choice (nat_eq b 44) _ _ n6.0
    ∙ second_choice (nat_eq b 59) _ _ n7.0 ∙ second_choice (nat_eq b 124) _ _ n8.0

fault_there : (cut : Bool) (p : ℕ) {bs : Bytes} {f : Fault} → IsFault cut p bs f → found_at cut p bs ≡ one_fault f
fault_there cut p (bytes_at_fault e c) = ap (found_at cut p) e ∙ first_choice cut (one_fault (not_text p)) end_of_text c
fault_there cut p (open_comment c e n) = ap (found_at cut p) e ∙ comment_there cut p c ∙ ap (λ (x : Bytes). one_fault (broken cut p (p + length x))) (sym e)
fault_there cut p (open_quote c t e h) =
    let whole = e ∙ ap (λ (x : Bytes). 39 ∷ x) (sym (append-nil c)) in
    ap (found_at cut p) whole ∙ quoted_there cut p c t [] Open h refl ∙ ap (λ (x : Bytes). one_fault (broken cut p (p + length x))) (sym whole)
fault_there cut p (open_escape c t e h) =
    ap (found_at cut p) e ∙ quoted_there cut p c t (92 ∷ []) Open h refl ∙ ap (λ (x : Bytes). one_fault (broken cut p (p + length x))) (sym e)
fault_there cut p (raw_newline c t rest e h) = ap (found_at cut p) e ∙ quoted_there cut p c t (10 ∷ rest) Newline h refl
fault_there cut p (escaped_raw_newline c t rest e h) = ap (found_at cut p) e ∙ quoted_there cut p c t (92 ∷ 10 ∷ rest) Newline h refl
fault_there cut p (unknown_escape c t rest b e h k) = ap (found_at cut p) e
    ∙ quoted_there cut p c t (92 ∷ b ∷ rest) (Unknown (length c)) h (unknown_there (length c) b rest k)
fault_there cut p (numeral_goes_on ds rest e n l g) = ap (found_at cut p) e ∙ numeral_there cut p ds rest n l
    ∙ first_choice (goes_on rest) (one_fault (not_pure p)) _ g
fault_there cut p (wide_numeral ds rest e n l g w) =
    ap (found_at cut p) e ∙ numeral_there cut p ds rest n l ∙ second_choice (goes_on rest) _ _ g
    ∙ second_choice (leb (number_of ds) 9223372036854775808) _ _ (above_all (number_of ds) 9223372036854775808 w)
fault_there cut p (impure_symbol s rest e l i) =
    let k = impure_run s i in
    ap (found_at cut p) e ∙ run_there cut p s rest k.0 l ∙ second_choice (begins_comment s) _ _ k.1 ∙ first_choice (is_impure s) (one_fault (not_pure p)) _ i
fault_there cut p (impure_character b rest e i) =
    let test : (c : ℕ) → Bool = λ c. not (is_word c || is_symbol c || is_solo c) in
    let none = not_true (is_word b || is_symbol b || is_solo b) (one_of test b (codes "!\"`") i refl) in
    let k = or_false (is_word b || is_symbol b) (is_solo b) none in
    let l = or_false (is_word b) (is_symbol b) k.0 in
    ap (found_at cut p) e ∙ character_there cut p b rest l.0 l.1 k.1 ∙ first_choice (is_impure_character b) (one_fault (not_pure p)) (one_fault (syntax p)) i
fault_there cut p (other_character b rest e n) =
    let j = or_false (is_word b || is_symbol b || is_solo b) (is_impure_character b) n in
    let k = or_false (is_word b || is_symbol b) (is_solo b) j.0 in
    let l = or_false (is_word b) (is_symbol b) k.0 in
    ap (found_at cut p) e ∙ character_there cut p b rest l.0 l.1 k.1 ∙ second_choice (is_impure_character b) (one_fault (not_pure p)) (one_fault (syntax p)) j.1

-- ---- one answer

-- the answer is what is found behind the gap
abbrev IsFoundBehind : Bool → ℕ → Bytes → Answer → Type 0
IsFoundBehind cut p bs a = (g : Bytes) × (r : Bytes) × (bs ≡ g ++ r) × Separates g r × (is_separated r ≡ true)
    × (answer_behind p (length g) (found_at cut (p + length g) r) ≡ a)

next_there : (cut : Bool) (p : ℕ) (bs : Bytes) {a : Answer} → Next cut p bs a → IsFoundBehind cut p bs a
next_there cut p bs (finished s c) =
    (bs, [], sym (append-nil bs), s, refl, ap (answer_behind p (length bs)) (second_choice cut (one_fault (not_text (p + length bs))) end_of_text c))
next_there cut p bs (read g t rest k e s sep h) =
    let some : ltb 0 (length g) ≡ is_some g = sym (some_is g) in (
      g,
      t ++ rest,
      e,
      s,
      sep,
      ap (answer_behind p (length g)) (token_there cut (p + length g) k t rest h)
          ∙ ap (λ (v : Bool). one (record { kind = k; start = p + length g; end = p + length g + length t; layout_before = v })) some,
    )
next_there cut p bs (stopped g rest f e s sep h) = (g, rest, e, s, sep, ap (answer_behind p (length g)) (fault_there cut (p + length g) h))

one_next : (cut : Bool) (p : ℕ) (bs : Bytes) (a b : Answer) → Next cut p bs a → Next cut p bs b → a ≡ b
one_next cut p bs a b h k =
    let x = next_there cut p bs h in
    let y = next_there cut p bs k in
    let whole : x.0 ++ x.1 ≡ y.0 ++ y.1 = sym x.2 ∙ y.2 in
    let gaps : x.0 ≡ y.0 = one_gap x.3 y.0 y.1 y.3 whole x.4 y.4 in
    let rests : x.1 ≡ y.1 = append_cancel_left x.0 x.1 y.1 (whole ∙ ap (λ (g : Bytes). g ++ y.1) (sym gaps)) in
    sym x.5 ∙ ap (λ (g : Bytes). answer_behind p (length g) (found_at cut (p + length g) x.1)) gaps
    ∙ ap (λ (r : Bytes). answer_behind p (length y.0) (found_at cut (p + length y.0) r)) rests ∙ y.5

one_front : (bs : Bytes) (n m : ℕ) → IsFront bs n → IsFront bs m → n ≡ m
one_front bs n m (inl h) (inl k) = h.0 ∙ sym k.0
one_front bs n m (inl h) (inr v) = absurd (v.longest n (omega (arith, h.0, v.short)) (subst IsUtf8 (sym (take_all n bs (omega (arith, h.0)))) h.1))
one_front bs n m (inr v) (inl h) = absurd (v.longest m (omega (arith, h.0, v.short)) (subst IsUtf8 (sym (take_all m bs (omega (arith, h.0)))) h.1))
one_front bs n m (inr v) (inr w) = elim (cases_lt n m) [
  | inl l ↦ absurd (v.longest m l w.front)
  | inr l ↦ elim (cases_lt m n) [
    | inl k ↦ absurd (w.longest n k v.front)
    | inr k ↦ omega arith
  ]
]

pub one_answer : (bytes : Bytes) (p : ℕ) (a b : Answer) → Comes bytes p a → Comes bytes p b → a ≡ b
one_answer bytes p a b h k =
    let same : k.0 ≡ h.0 = one_front bytes k.0 h.0 k.1 h.1 in
    let other : Next (ltb h.0 (length bytes)) p (drop p (take h.0 bytes)) b =
    subst (λ (n : ℕ). Next (ltb n (length bytes)) p (drop p (take n bytes)) b) same k.2 in
    one_next (ltb h.0 (length bytes)) p (drop p (take h.0 bytes)) a b h.2 other

pub one_is : (t u : Token) → one t ≡ one u → t ≡ u
one_is t u e = cc

fault_is : (f g : Fault) → none_for f ≡ none_for g → f ≡ g
fault_is f g e = cc

not_last : (t : Token) (a : Answer) → is_last a ≡ true → a ≡ one t → ⊥
not_last t a last e = absurd (true≢false (sym last ∙ ap is_last e))

pub one_list : (bytes : Bytes) (a b : Answer) {p : ℕ} {ts us : List Token} → is_last a ≡ true → is_last b ≡ true → HasTokens bytes a p ts
    → HasTokens bytes b p us → (ts ≡ us) × (a ≡ b)
one_list bytes a b i j (no_token p c) (no_token q d) = (refl, one_answer bytes p a b c d)
one_list bytes a b i j (no_token p c) (token q u us d l) = absurd (not_last u a i (one_answer bytes p a (one u) c d))
one_list bytes a b i j (token p t ts c k) (no_token q d) = absurd (not_last t b j (one_answer bytes p b (one t) d c))
one_list bytes a b i j (token p t ts c k) (token q u us d l) =
    let same : t ≡ u = one_is t u (one_answer bytes p (one t) (one u) c d) in
    let later : HasTokens bytes b t.end us = subst (λ (v : Token). HasTokens bytes b v.end us) (sym same) l in
    let rest = one_list bytes a b i j k later in
    (ap (λ (v : Token). v ∷ ts) same ∙ ap (λ (vs : List Token). u ∷ vs) rest.0, rest.1)
