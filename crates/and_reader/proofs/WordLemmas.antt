-- Words of tokens.
use Rattle.std.proofs.Common.{◌≡◌, ℕ, ◌≤◌, Bool, true, false, not, sym, refl, ap, ◌∙◌, subst, codes}
use Rattle.std.specs.Str.{bytes_eq}
use Rattle.and_model.specs.Lines.{Bytes}
use Rattle.and_language.specs.Tokens
use Rattle.and_language.specs.Tokens.{one, Comes, Quotes, IsToken}
use Rattle.and_language.specs.Words.{Before, bracket, Word, name, minus, IsWord, symbol_token, minus_token, functor_token, bytes_of}
use Rattle.and_lex.specs.declared.tokens.Kind.{Kind}
use Rattle.and_lex.specs.Views.{kind_of}
use Rattle.and_lex.proofs.Written.{written}
use Rattle.and_reader.specs.declared.words.Before.{Before as Seen}
use Rattle.and_reader.specs.declared.words.Before.TheVariants as befores
use Rattle.and_reader.specs.Views.{before_of}

-- the word of a token that has the kind
pub of_kind : (bytes : Bytes) (t : Tokens.Token) (b : Before) (w : Word) (j k : Kind) → j ≡ k → IsWord bytes t b (kind_of k) w → IsWord bytes t b (kind_of j) w
of_kind bytes t b w j k e h = let P : Kind → Type 0 = λ i. IsWord bytes t b (kind_of i) w in subst P (sym e) h

is_false : (b : Bool) → true ≡ not b → b ≡ false
is_false false e = refl
is_false true e = cc

is_true : (b : Bool) → false ≡ not b → b ≡ true
is_true true e = refl
is_true false e = cc

-- a symbol that is no minus is a name
pub name_word : (bytes : Bytes) (b : Before) (s dash : Bytes) → dash ≡ codes "-" → true ≡ not (bytes_eq s dash) → (t : Tokens.Token) → s ≡ bytes_of bytes t
    → IsWord bytes t b Tokens.symbol (name s)
name_word bytes b s dash d e t h =
    let P : Bytes → Type 0 = λ x. IsWord bytes t b Tokens.symbol (name x) in
    let other : bytes_eq s (codes "-") ≡ false = ap (bytes_eq s) (sym d) ∙ is_false (bytes_eq s dash) e in
    subst P (sym h) (symbol_token (ap (λ x. bytes_eq x (codes "-")) (sym h) ∙ other))

no_bracket : (b : Seen) → before_of b ≡ bracket → ⊥
no_bracket befores.Integer e = cc
no_bracket befores.Stop e = cc
no_bracket befores.Operand e = cc

-- a minus that no bracket stands right behind
pub minus_word : (bytes : Bytes) (b : Before) (a : Seen) (s dash : Bytes) → dash ≡ codes "-" → false ≡ not (bytes_eq s dash) → before_of a ≡ b
    → (t : Tokens.Token) → s ≡ bytes_of bytes t
    → IsWord bytes t b Tokens.symbol (minus (before_of a))
minus_word bytes b a s dash d e seen t h =
    let P : Before → Type 0 = λ x. IsWord bytes t x Tokens.symbol (minus (before_of a)) in
    let same : bytes_eq s (codes "-") ≡ true = ap (bytes_eq s) (sym d) ∙ is_true (bytes_eq s dash) e in
    subst P seen (minus_token (ap (λ x. bytes_eq x (codes "-")) (sym h) ∙ same) (no_bracket a))

-- and one that a bracket stands right behind
pub functor_word : (bytes : Bytes) (b : Before) (s dash : Bytes) → dash ≡ codes "-" → false ≡ not (bytes_eq s dash) → bracket ≡ b → (t : Tokens.Token)
    → s ≡ bytes_of bytes t
    → IsWord bytes t b Tokens.symbol (name s)
functor_word bytes b s dash d e seen t h =
    let P : Bytes → Type 0 = λ x. IsWord bytes t b Tokens.symbol (name x) in
    let same : bytes_eq s (codes "-") ≡ true = ap (bytes_eq s) (sym d) ∙ is_true (bytes_eq s dash) e in
    subst P (sym h) (functor_token (ap (λ x. bytes_eq x (codes "-")) (sym h) ∙ same) (sym seen))

-- a quoted token has a text
pub quoted_text : (bytes : Bytes) (p : ℕ) (tok : Tokens.Token) → Comes bytes p (one tok) → tok.kind ≡ Tokens.quoted
    → (text : Bytes) × Quotes (bytes_of bytes tok) text
quoted_text bytes p tok h q =
    let (cut, rest, is) = written bytes p tok h in
    let P : Tokens.Kind → Type 0 = λ k. IsToken cut k (bytes_of bytes tok) rest in
    (subst P q is).0

-- the number of a token is at most 2 ^ 63
pub small_integer : (bytes : Bytes) (p : ℕ) (tok : Tokens.Token) (z : ℕ) → Comes bytes p (one tok) → tok.kind ≡ Tokens.integer z → z ≤ 9223372036854775808
small_integer bytes p tok z h q =
    let (cut, rest, is) = written bytes p tok h in
    let P : Tokens.Kind → Type 0 = λ k. IsToken cut k (bytes_of bytes tok) rest in
    (subst P q is).4
