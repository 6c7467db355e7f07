-- The words of a front of a text: each token is one, and one token more is one word more.
use Rattle.std.proofs.Common.{ℕ, ◌≡◌, Bool, true, false, not, refl, List, [], ◌∷◌, ◌++◌, subst}
use Rattle.std.specs.Prelude.{codes}
use Rattle.std.specs.Str.{bytes_eq}
use Rattle.and_model.specs.Lines.{Bytes}
use Rattle.and_language.specs.Tokens.{Kind, Token, Answer, one, IsToken, Comes, HasTokens, no_token, token}
use Rattle.and_language.specs.Tokens as tokens
use Rattle.and_language.specs.Words.{Before, Word, Placed, bytes_of, before, IsWord, variable_token, integer_token, name_token, symbol_token, minus_token}
use Rattle.and_language.specs.Words.{functor_token, quoted_token, open_bracket_token, close_bracket_token, open_list_token, close_list_token}
use Rattle.and_language.specs.Words.{open_brace_token, close_brace_token, comma_token, semicolon_token, bar_token, end_token, AreWords}
use Rattle.and_language.specs.Words as words
use Rattle.and_language.specs.Refusals.{HasWords}
use Rattle.and_lex.proofs.Written.{written}

symbol_word : (bytes : Bytes) (t : Token) (b : Before) (v : Bool) → bytes_eq (bytes_of bytes t) (codes "-") ≡ v → (w : Word) × IsWord bytes t b tokens.symbol w
symbol_word bytes t b false e = (words.name (bytes_of bytes t), symbol_token e)
symbol_word bytes t words.integer true e = (words.minus words.integer, minus_token e (λ h. cc))
symbol_word bytes t words.bracket true e = (words.name (bytes_of bytes t), functor_token e refl)
symbol_word bytes t words.stop true e = (words.minus words.stop, minus_token e (λ h. cc))
symbol_word bytes t words.operand true e = (words.minus words.operand, minus_token e (λ h. cc))

kind_word : (bytes : Bytes) (t : Token) (b : Before) (cut : Bool) (rest : Bytes) (k : Kind) → IsToken cut k (bytes_of bytes t) rest
    → (w : Word) × IsWord bytes t b k w
kind_word bytes t b cut rest tokens.variable h = (words.variable (bytes_of bytes t), variable_token)
kind_word bytes t b cut rest tokens.name h = (words.name (bytes_of bytes t), name_token)
kind_word bytes t b cut rest tokens.quoted h = (words.quoted h.0.0, quoted_token h.0.0 h.0.1)
kind_word bytes t b cut rest tokens.symbol h = symbol_word bytes t b (bytes_eq (bytes_of bytes t) (codes "-")) refl
kind_word bytes t b cut rest (tokens.integer z) h = (words.integer z, integer_token z)
kind_word bytes t b cut rest tokens.open_bracket h = (words.open_bracket (not t.layout_before), open_bracket_token)
kind_word bytes t b cut rest tokens.close_bracket h = (words.close_bracket, close_bracket_token)
kind_word bytes t b cut rest tokens.open_list h = (words.open_list, open_list_token)
kind_word bytes t b cut rest tokens.close_list h = (words.close_list, close_list_token)
kind_word bytes t b cut rest tokens.open_brace h = (words.open_brace, open_brace_token)
kind_word bytes t b cut rest tokens.close_brace h = (words.close_brace, close_brace_token)
kind_word bytes t b cut rest tokens.comma h = (words.comma, comma_token)
kind_word bytes t b cut rest tokens.semicolon h = (words.semicolon, semicolon_token)
kind_word bytes t b cut rest tokens.bar h = (words.bar, bar_token)
kind_word bytes t b cut rest tokens.end_of_clause h = (words.end, end_token)

-- what comes behind the tokens comes at some place
pub comes_behind : (bytes : Bytes) {a : Answer} {p : ℕ} {ts : List Token} → HasTokens bytes a p ts → (q : ℕ) × Comes bytes q a
comes_behind bytes (no_token p c) = (p, c)
comes_behind bytes (token p t ts c h) = comes_behind bytes h

-- the token that comes next is a word
pub each_word : (bytes : Bytes) (ws : List Placed) (t : Token) (b : Before) → HasWords bytes ws (one t) → (w : Word) × IsWord bytes t b t.kind w
each_word bytes ws t b h =
    let c = comes_behind bytes h.1 in
    let is = written bytes c.0 t c.1 in
    kind_word bytes t b is.0 is.1 t.kind is.2

-- The words before a token, and the token's own.

pub tokens_more : (bytes : Bytes) (t : Token) (a : Answer) {p : ℕ} {ts : List Token} → HasTokens bytes (one t) p ts → Comes bytes t.end a
    → HasTokens bytes a p (ts ++ t ∷ [])
tokens_more bytes t a (no_token p c) d = token p t [] c (no_token t.end d)
tokens_more bytes t a (token p u us e h) d = token p u (us ++ t ∷ []) e (tokens_more bytes t a h d)

before_same : (bytes : Bytes) (t : Token) (ts : List Token) (a : Answer) → before bytes ts (one t) ≡ before bytes (ts ++ t ∷ []) a
before_same bytes t [] a = refl
before_same bytes t (u ∷ us) a = refl

pub words_more : (bytes : Bytes) (t : Token) (a : Answer) (w : Word) {ts : List Token} {ws : List Placed} → AreWords bytes (one t) ts ws
    → IsWord bytes t (before bytes [] a) t.kind w
    → AreWords bytes a (ts ++ t ∷ []) (ws ++ record { word = w; place = t.start } ∷ [])
words_more bytes t a w words.nothing h = words.more t [] w [] h words.nothing
words_more bytes t a w (words.more u us x vs i later) h =
    let P : Before → Type 0 = λ b. IsWord bytes u b u.kind x in
    words.more u (us ++ t ∷ []) x (vs ++ record { word = w; place = t.start } ∷ []) (subst P (before_same bytes t us a) i) (words_more bytes t a w later h)

pub no_words : (bytes : Bytes) (a : Answer) → Comes bytes 0 a → HasWords bytes [] a
no_words bytes a c = ([], no_token 0 c, words.nothing)

pub more_words : (bytes : Bytes) (ws : List Placed) (t : Token) (a : Answer) (w : Word) → HasWords bytes ws (one t) → Comes bytes t.end a
    → IsWord bytes t (before bytes [] a) t.kind w
    → HasWords bytes (ws ++ record { word = w; place = t.start } ∷ []) a
more_words bytes ws t a w h c i =
    (h.0 ++ t ∷ [], tokens_more bytes t a h.1 c, words_more bytes t a w h.2 i)
