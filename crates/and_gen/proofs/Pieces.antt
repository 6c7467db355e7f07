-- A text as pieces: each a token, with its word, and what stands before it.
use Rattle.std.proofs.Common.{ℕ, ◌+◌, ◌-◌, ◌≡◌, ◌<◌, true, false, not, ltb, List, [], ◌∷◌, ◌++◌, length, take, drop, refl, sym, ap, subst, ◌∙◌, arith, inl}
use Rattle.std.proofs.Common.{codes}
use Rattle.std.specs.Prelude.{IsUtf8}
use Rattle.std.specs.Str.{bytes_eq}
use Rattle.std.proofs.lemmas.List.{drop-drop, take_all}
use Rattle.std.proofs.Math.Seq.{drop-append_seam, take-append_seam}
use Rattle.std.specs.Fmt.{decimal}
use Rattle.and_model.specs.Lines.{Bytes, is_word, is_symbol, is_plain_name, begins_comment}
use Rattle.and_gen.proofs.Numbers.{numeral_of, numeral_separated}
use Rattle.and_language.specs.Tokens.{Kind, Token, Answer, no_more, one, Separates, is_separated, is_some, IsToken, Next, finished, read, Comes, HasTokens}
use Rattle.and_language.specs.Tokens.{no_token, token, begins, is_variable, is_digit, is_run, is_impure, goes_on, ends_clause}
use Rattle.and_language.specs.Tokens as tokens
use Rattle.and_language.specs.Words.{Word, Placed, IsWord, AreWords, nothing, more, bytes_of, before}
use Rattle.and_language.specs.Words as words

pub record Piece : Type 0 where
  pub gap : Bytes
  pub token : Bytes
  pub kind : Kind
  pub word : Word

-- the bytes of pieces and what stands behind them
abbrev pub text_of : List Piece → Bytes → Bytes
text_of [] behind = behind
text_of (x ∷ xs) behind = x.gap ++ (x.token ++ text_of xs behind)

-- a piece stands before the rest
pub record Fits (x : Piece) (rest : Bytes) : Type 0 where
  pub separates : Separates x.gap (x.token ++ rest)
  pub separated : is_separated (x.token ++ rest) ≡ true
  pub is : IsToken false x.kind x.token rest
  pub word : (bytes : Bytes) (t : Token) (b : words.Before) → bytes_of bytes t ≡ x.token → t.layout_before ≡ is_some x.gap
      → IsWord bytes t b x.kind x.word

abbrev pub AllFit : List Piece → Bytes → Type 0
AllFit [] behind = Unit {0}
AllFit (x ∷ xs) behind = Fits x (text_of xs behind) × AllFit xs behind

abbrev token_at : ℕ → Piece → Token
token_at p x = record { kind = x.kind; start = p + length x.gap; end = p + length x.gap + length x.token; layout_before = is_some x.gap }

abbrev pub tokens_of : ℕ → List Piece → List Token
tokens_of p [] = []
tokens_of p (x ∷ xs) = token_at p x ∷ tokens_of (p + length x.gap + length x.token) xs

abbrev pub placed_of : ℕ → List Piece → List Placed
placed_of p [] = []
placed_of p (x ∷ xs) = record { word = x.word; place = p + length x.gap } ∷ placed_of (p + length x.gap + length x.token) xs

module _ (bytes end : Bytes) (utf8 : IsUtf8 bytes) (last : Separates end []) where
  comes : (p : ℕ) (bs : Bytes) (a : Answer) → drop p bytes ≡ bs → Next false p bs a → Comes bytes p a
  comes p bs a e n =
      let whole : take (length bytes) bytes ≡ bytes = take_all (length bytes) bytes (omega arith) in
      let uncut : ltb (length bytes) (length bytes) ≡ false = grind arith in
      (length bytes, inl (refl, utf8), rw (uncut, whole, e) n)

  behind : (p : ℕ) (xs rest : Bytes) → drop p bytes ≡ xs ++ rest → drop (p + length xs) bytes ≡ rest
  behind p xs rest e = sym (drop-drop (length xs) p bytes) ∙ ap (drop (length xs)) e ∙ drop-append_seam xs rest

  pub have_tokens : (p : ℕ) (xs : List Piece) → drop p bytes ≡ text_of xs end → AllFit xs end → HasTokens bytes no_more p (tokens_of p xs)
  have_tokens p [] e h = no_token p (comes p end no_more e (finished last refl))
  have_tokens p (x ∷ xs) e h =
      let rest = text_of xs end in
      let here : Next false p (text_of (x ∷ xs) end) (one (token_at p x)) =
      read x.gap x.token rest x.kind refl h.0.separates h.0.separated h.0.is in
      token p (token_at p x) (tokens_of (p + length x.gap + length x.token) xs) (comes p (text_of (x ∷ xs) end) (one (token_at p x)) e here)
      (have_tokens (p + length x.gap + length x.token) xs (behind (p + length x.gap) x.token rest (behind p x.gap (x.token ++ rest) e)) h.1)

  pub are_words : (p : ℕ) (xs : List Piece) → drop p bytes ≡ text_of xs end → AllFit xs end
      → AreWords bytes no_more (tokens_of p xs) (placed_of p xs)
  are_words p [] e h = nothing
  are_words p (x ∷ xs) e h =
      let rest = text_of xs end in
      let at : drop (p + length x.gap) bytes ≡ x.token ++ rest = behind p x.gap (x.token ++ rest) e in
      let size : p + length x.gap + length x.token - (p + length x.gap) ≡ length x.token = omega arith in
      let own : bytes_of bytes (token_at p x) ≡ x.token = rw (at, size) (take-append_seam x.token rest) in
      let ts = tokens_of (p + length x.gap + length x.token) xs in
      more (token_at p x) ts x.word (placed_of (p + length x.gap + length x.token) xs) (h.0.word bytes (token_at p x)
      (before bytes ts no_more) own refl)
      (are_words (p + length x.gap + length x.token) xs (behind (p + length x.gap) x.token rest at) h.1)

-- pieces one after another
abbrev pub after : ℕ → List Piece → ℕ
after p [] = p
after p (x ∷ xs) = after (p + length x.gap + length x.token) xs

pub text-append : (xs ys : List Piece) (rest : Bytes) → text_of (xs ++ ys) rest ≡ text_of xs (text_of ys rest)
text-append [] ys rest = refl
text-append (x ∷ xs) ys rest = ap (λ bs. x.gap ++ (x.token ++ bs)) (text-append xs ys rest)

pub placed-append : (p : ℕ) (xs ys : List Piece) → placed_of p (xs ++ ys) ≡ placed_of p xs ++ placed_of (after p xs) ys
placed-append p [] ys = refl
placed-append p (x ∷ xs) ys = ap (λ ps. record {
  word = x.word;
  place =
      p + length x.gap;
} ∷ ps) (placed-append (p + length x.gap + length x.token) xs ys)

pub fit-append : (xs ys : List Piece) (rest : Bytes) → AllFit xs (text_of ys rest) → AllFit ys rest → AllFit (xs ++ ys) rest
fit-append [] ys rest h k = k
fit-append (x ∷ xs) ys rest h k = (subst (Fits x) (sym (text-append xs ys rest)) h.0, fit-append xs ys rest h.1 k)

-- what stands between tokens, whatever comes next
abbrev pub IsGap : Bytes → Type 0
IsGap g = (rest : Bytes) → Separates g rest

pub no_gap : IsGap []
no_gap rest = tokens.nothing rest

pub blank : IsGap (32 ∷ [])
blank rest = tokens.layout 32 [] rest refl (tokens.nothing rest)

pub newline : IsGap (10 ∷ [])
newline rest = tokens.layout 10 [] rest refl (tokens.nothing rest)

-- The pieces of the generated text.
abbrev pub named : Bytes → Bytes → Piece
named g c = record { gap = g; token = c; kind = tokens.name; word = words.name c }

abbrev pub signed : Bytes → Bytes → Piece
signed g c = record { gap = g; token = c; kind = tokens.symbol; word = words.name c }

abbrev pub variable : Bytes → Piece
variable c = record { gap = []; token = c; kind = tokens.variable; word = words.variable c }

abbrev pub number : ℕ → Piece
number n = record { gap = []; token = decimal n; kind = tokens.integer n; word = words.integer n }

abbrev pub single : Bytes → Kind → Word → Piece
single c k w = record { gap = []; token = c; kind = k; word = w }

abbrev pub opening : Piece
opening = single (codes "(") tokens.open_bracket (words.open_bracket true)

abbrev pub closing : Piece
closing = single (codes ")") tokens.close_bracket words.close_bracket

abbrev pub open_list : Piece
open_list = single (codes "[") tokens.open_list words.open_list

abbrev pub close_list : Piece
close_list = single (codes "]") tokens.close_list words.close_list

abbrev pub comma : Piece
comma = single (codes ",") tokens.comma words.comma

abbrev pub bar : Piece
bar = single (codes "|") tokens.bar words.bar

abbrev pub stop : Piece
stop = single (codes ".") tokens.end_of_clause words.end

pub fits_name : (g c rest : Bytes) → IsGap g → is_plain_name c ≡ true → begins is_word rest ≡ false → is_separated (c ++ rest) ≡ true
    → Fits (named g c) rest
fits_name g c rest gap plain ends separated = record {
  separates = gap (c ++ rest);
  separated = separated;
  is = (plain, ends);
  word = λ bytes t b own layout. subst (λ x. IsWord bytes t b tokens.name (words.name x)) own words.name_token;
}

pub fits_variable : (c rest : Bytes) → is_variable c ≡ true → begins is_word rest ≡ false → is_separated (c ++ rest) ≡ true
    → Fits (variable c) rest
fits_variable c rest capital ends separated = record {
  separates = no_gap (c ++ rest);
  separated = separated;
  is = (capital, ends);
  word = λ bytes t b own layout. subst (λ x. IsWord bytes t b tokens.variable (words.variable x)) own words.variable_token;
}

pub fits_symbol : (g c rest : Bytes) → IsGap g → is_run c ≡ true → begins is_symbol rest ≡ false → begins_comment c ≡ false
    → is_impure c ≡ false
    → (c ≡ codes "." → ⊥) → bytes_eq c (codes "-") ≡ false → is_separated (c ++ rest) ≡ true → Fits (signed g c) rest
fits_symbol g c rest gap run ends comment impure other minus separated = record {
  separates = gap (c ++ rest);
  separated = separated;
  is = (run, ends, comment, impure, λ e. absurd (other e));
  word = λ bytes t b own layout. subst (λ x. IsWord bytes t b tokens.symbol (words.name x)) own (words.symbol_token (rw own minus));
}

pub fits_number : (n : ℕ) (rest : Bytes) → n < 1000 → begins is_digit rest ≡ false → goes_on rest ≡ false → Fits (number n) rest
fits_number n rest small ends pure =
    let numeral = numeral_of n (omega arith) in
    record {
      separates = no_gap (decimal n ++ rest);
      separated = numeral_separated (decimal n) rest numeral.0;
      is = (numeral.0, ends, pure, sym numeral.1, omega arith);
      word = λ bytes t b own layout. words.integer_token n;
    }

pub fits_open : (rest : Bytes) → Fits opening rest
fits_open rest = record {
  separates = no_gap (40 ∷ rest);
  separated = refl;
  is = refl;
  word = λ bytes t b own layout. subst (λ l. IsWord bytes t b tokens.open_bracket (words.open_bracket
      (not l))) layout words.open_bracket_token;
}

pub fits_close : (rest : Bytes) → Fits closing rest
fits_close rest = record {
  separates = no_gap (41 ∷ rest);
  separated = refl;
  is = refl;
  word =
      λ bytes t b own layout. words.close_bracket_token;
}

pub fits_open_list : (rest : Bytes) → Fits open_list rest
fits_open_list rest = record {
  separates = no_gap (91 ∷ rest);
  separated = refl;
  is = refl;
  word =
      λ bytes t b own layout. words.open_list_token;
}

pub fits_close_list : (rest : Bytes) → Fits close_list rest
fits_close_list rest = record {
  separates = no_gap (93 ∷ rest);
  separated = refl;
  is = refl;
  word =
      λ bytes t b own layout. words.close_list_token;
}

pub fits_comma : (rest : Bytes) → Fits comma rest
fits_comma rest = record { separates = no_gap (44 ∷ rest); separated = refl; is = refl; word = λ bytes t b own layout. words.comma_token }

pub fits_bar : (rest : Bytes) → Fits bar rest
fits_bar rest = record { separates = no_gap (124 ∷ rest); separated = refl; is = refl; word = λ bytes t b own layout. words.bar_token }

pub fits_stop : (rest : Bytes) → ends_clause false rest ≡ true → Fits stop rest
fits_stop rest ends = record {
  separates = no_gap (46 ∷ rest);
  separated = refl;
  is = (refl, ends);
  word =
      λ bytes t b own layout. words.end_token;
}
