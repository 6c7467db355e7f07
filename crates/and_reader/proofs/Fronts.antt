-- Of two fronts of a text's words one begins the other.
use Rattle.std.proofs.Common.{◌≡◌, ℕ, true≢false, List, [], ◌∷◌, ◌++◌, sym, refl, ap, ◌∙◌, subst}
use Rattle.and_model.specs.Lines.{Bytes}
use Rattle.and_language.specs.Tokens
use Rattle.and_language.specs.Tokens.{Token, Answer, no_more, one, none_for, Comes, HasTokens, no_token, token, Quotes}
use Rattle.and_language.specs.Words.{Before, bracket, Word, Placed, before, IsWord, AreWords, variable_token, integer_token, name_token, symbol_token}
use Rattle.and_language.specs.Words.{minus_token, functor_token, quoted_token, open_bracket_token, close_bracket_token, open_list_token, close_list_token}
use Rattle.and_language.specs.Words.{open_brace_token, close_brace_token, comma_token, semicolon_token, bar_token, end_token}
use Rattle.and_language.specs.Words as words
use Rattle.and_language.specs.Refusals.{HasWords}
use Rattle.and_lex.specs.Quoting.{text_between}
use Rattle.and_lex.proofs.Quoted.{names_text, inner_bytes}
use Rattle.and_lex.proofs.Completeness.{one_answer, one_is}

-- a quoted token names one text
one_text : (bs s t : Bytes) → Quotes bs s → Quotes bs t → s ≡ t
one_text bs s t (c, e, h) (d, f, k) =
    let same : c ≡ d = sym (inner_bytes bs c e) ∙ inner_bytes bs d f in
    sym (names_text h) ∙ (ap text_between same ∙ names_text k)

-- a token is one word
one_word : (bytes : Bytes) (t : Token) (b : Before) {k : Tokens.Kind} {w v : Word} → IsWord bytes t b k w → IsWord bytes t b k v → w ≡ v
one_word bytes t b variable_token variable_token = refl
one_word bytes t b (integer_token y) (integer_token z) = refl
one_word bytes t b name_token name_token = refl
one_word bytes t b (symbol_token e) (symbol_token f) = refl
one_word bytes t b (symbol_token e) (minus_token f n) = absurd (true≢false (sym f ∙ e))
one_word bytes t b (symbol_token e) (functor_token f n) = refl
one_word bytes t b (minus_token e n) (symbol_token f) = absurd (true≢false (sym e ∙ f))
one_word bytes t b (minus_token e n) (minus_token f m) = refl
one_word bytes t b (minus_token e n) (functor_token f m) = absurd (n m)
one_word bytes t b (functor_token e n) (symbol_token f) = refl
one_word bytes t b (functor_token e n) (minus_token f m) = absurd (m n)
one_word bytes t b (functor_token e n) (functor_token f m) = refl
one_word bytes t b (quoted_token x h) (quoted_token y k) = ap (λ z. words.quoted z) (one_text _ x y h k)
one_word bytes t b open_bracket_token open_bracket_token = refl
one_word bytes t b close_bracket_token close_bracket_token = refl
one_word bytes t b open_list_token open_list_token = refl
one_word bytes t b close_list_token close_list_token = refl
one_word bytes t b open_brace_token open_brace_token = refl
one_word bytes t b close_brace_token close_brace_token = refl
one_word bytes t b comma_token comma_token = refl
one_word bytes t b semicolon_token semicolon_token = refl
one_word bytes t b bar_token bar_token = refl
one_word bytes t b end_token end_token = refl

-- what comes first, seen from a minus
first_answer : (bytes : Bytes) (a : Answer) {p : ℕ} {ts : List Token} → HasTokens bytes a p ts
    → (x : Answer) × Comes bytes p x × (before bytes ts a ≡ before bytes [] x)
first_answer bytes a (no_token p c) = (a, c, refl)
first_answer bytes a (token p t ts c h) = (one t, c, refl)

same_before : (bytes : Bytes) (a b : Answer) {p : ℕ} {ts us : List Token} → HasTokens bytes a p ts → HasTokens bytes b p us
    → before bytes ts a ≡ before bytes us b
same_before bytes a b {p = p} h k =
    let x = first_answer bytes a h in
    let y = first_answer bytes b k in
    x.2 ∙ (ap (before bytes []) (one_answer bytes p x.0 y.0 x.1 y.1) ∙ sym y.2)

-- The words are the same, with the same answer behind them; or the ones or the others go on, with a token there.
pub data Fronts (ws vs : List Placed) (a b : Answer) : Type 0 where
  same : ws ≡ vs → a ≡ b → Fronts ws vs a b
  longer : (es : List Placed) (t : Token) → vs ≡ ws ++ es → a ≡ one t → Fronts ws vs a b
  shorter : (es : List Placed) (t : Token) → ws ≡ vs ++ es → b ≡ one t → Fronts ws vs a b

front_more : (ws vs : List Placed) (a b : Answer) (p q : Placed) → p ≡ q → Fronts ws vs a b → Fronts (p ∷ ws) (q ∷ vs) a b
front_more ws vs a b p q e (same f g) = same (ap (λ x. x ∷ ws) e ∙ ap (λ x. q ∷ x) f) g
front_more ws vs a b p q e (longer es t f g) = longer es t (ap (λ x. q ∷ x) f ∙ ap (λ x. x ∷ (ws ++ es)) (sym e)) g
front_more ws vs a b p q e (shorter es t f g) = shorter es t (ap (λ x. p ∷ x) f ∙ ap (λ x. x ∷ (vs ++ es)) e) g

compared : (bytes : Bytes) (a b : Answer) {p : ℕ} {ts us : List Token} {ws vs : List Placed} → HasTokens bytes a p ts → AreWords bytes a ts ws
    → HasTokens bytes b p us → AreWords bytes b us vs → Fronts ws vs a b
compared bytes a b (no_token p c) words.nothing (no_token q d) words.nothing = same refl (one_answer bytes p a b c d)
compared bytes a b (no_token p c) words.nothing (token q u us e l) (words.more v vs w ws i further) =
    longer (record { word = w; place = v.start } ∷ ws) u refl (one_answer bytes p a (one u) c e)
compared bytes a b (token q u us e l) (words.more v vs w ws i further) (no_token p d) words.nothing =
    shorter (record { word = w; place = v.start } ∷ ws) u refl (one_answer bytes p b (one u) d e)
compared bytes a b (token p t ts e l) (words.more t2 ts2 w ws i further) (token p' u us f m) (words.more u2 us2 v vs j rest) =
    let tok : u ≡ t = one_is u t (one_answer bytes p (one u) (one t) f e) in
    let L : Token → Type 0 = λ x. HasTokens bytes b x.end us in
    let J : Token → Type 0 = λ x. IsWord bytes x (before bytes us b) x.kind v in
    let l' = subst L tok m in
    let B : Before → Type 0 = λ x. IsWord bytes t x t.kind v in
    let j' = subst B (sym (same_before bytes a b l l')) (subst J tok j) in
    let word : w ≡ v = one_word bytes t (before bytes ts a) i j' in
    let placed : ◌≡◌ {A = Placed} (record { word = w; place = t.start }) (record { word = v; place = u.start }) =
    ap (λ x. let y : Placed = record { word = x; place = t.start } in y) word
    ∙ ap (λ (x : Token). let y : Placed = record { word = v; place = x.start } in y) (sym tok) in
    front_more ws vs a b _ _ placed (compared bytes a b l further l' rest)

-- two fronts of the words of a text
pub fronts : (bytes : Bytes) (ws vs : List Placed) (a b : Answer) → HasWords bytes ws a → HasWords bytes vs b → Fronts ws vs a b
fronts bytes ws vs a b h k = compared bytes a b h.1 h.2 k.1 k.2
