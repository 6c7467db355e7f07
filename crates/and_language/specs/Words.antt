-- The words of a text, as its grammar sees them: tokens with their bytes, and with what a minus stands before (after
-- ISO 13211-1, section 6.3.4).
use Rattle.std.specs.Prelude.{ℕ, ◌-◌, ◌≡◌, Bool, true, false, not, cond, ◌||◌, List, [], ◌∷◌, take, drop, codes}
use Rattle.std.specs.Str.{bytes_eq}
use Rattle.std.specs.List.{list_any}
use Rattle.and_model.specs.Lines.{Bytes}
use Rattle.and_language.specs.Tokens.{Kind, Token, Answer, no_more, one, none_for, Quotes}
use Rattle.and_language.specs.Tokens as tokens

-- What a minus stands before: an integer or a bracket right behind it, something that no operand begins with, or an
-- operand.
pub data Before : Type 0 where
  integer : Before
  bracket : Before
  stop : Before
  operand : Before

-- A word. A name is unquoted; a minus that no bracket stands right behind is a word of its own. An opening bracket
-- tells whether it stands right behind the word before it.
pub data Word : Type 0 where
  variable : Bytes → Word
  integer : ℕ → Word
  name : Bytes → Word
  quoted : Bytes → Word
  minus : Before → Word
  open_bracket : Bool → Word
  close_bracket : Word
  open_list : Word
  close_list : Word
  open_brace : Word
  close_brace : Word
  comma : Word
  semicolon : Word
  bar : Word
  end : Word

-- a word at its place in the text
pub record Placed : Type 0 where
  pub word : Word
  pub place : ℕ

-- the bytes of a token
abbrev pub bytes_of : Bytes → Token → Bytes
bytes_of bytes t = take (t.end - t.start) (drop t.start bytes)

abbrev pub is_one_of : List Bytes → Bytes → Bool
is_one_of cs c = list_any (bytes_eq c) cs

abbrev pub products : List Bytes
products = codes "*" ∷ codes "//" ∷ codes "mod" ∷ codes "rem" ∷ []

abbrev pub sums : List Bytes
sums = codes "+" ∷ codes "-" ∷ []

abbrev pub relations : List Bytes
relations = codes "=" ∷ codes "is" ∷ codes "<" ∷ codes ">" ∷ codes "=<" ∷ codes ">=" ∷ codes "=:=" ∷ codes "=\\=" ∷ []

-- `:-`, `-->` and `?-` are no atoms
abbrev pub is_reserved : Bytes → Bool
is_reserved c = bytes_eq c (codes ":-") || bytes_eq c (codes "-->") || bytes_eq c (codes "?-")

-- an operator other than the minus
abbrev pub is_operator : Bytes → Bool
is_operator c = bytes_eq c (codes ":-") || bytes_eq c (codes "-->") || bytes_eq c (codes "+") || is_one_of products c
    || is_one_of relations c

abbrev pub if_operator : Bytes → Before
if_operator c = cond (is_operator c) stop operand

abbrev pub if_spaced : Token → Before → Before
if_spaced t b = cond t.layout_before operand b

-- what comes next, seen from a minus
abbrev pub before_kind : Bytes → Token → Kind → Before
before_kind bytes t tokens.variable = operand
before_kind bytes t tokens.name = if_operator (bytes_of bytes t)
before_kind bytes t tokens.quoted = operand
before_kind bytes t tokens.symbol = if_operator (bytes_of bytes t)
before_kind bytes t (tokens.integer z) = if_spaced t integer
before_kind bytes t tokens.open_bracket = if_spaced t bracket
before_kind bytes t tokens.close_bracket = stop
before_kind bytes t tokens.open_list = operand
before_kind bytes t tokens.close_list = stop
before_kind bytes t tokens.open_brace = operand
before_kind bytes t tokens.close_brace = stop
before_kind bytes t tokens.comma = stop
before_kind bytes t tokens.semicolon = stop
before_kind bytes t tokens.bar = stop
before_kind bytes t tokens.end_of_clause = stop

-- (A minus before a token that is at fault counts as one before an operand.)
abbrev pub before : Bytes → List Token → Answer → Before
before bytes [] no_more = stop
before bytes [] (one t) = before_kind bytes t t.kind
before bytes [] (none_for f) = operand
before bytes (t ∷ ts) a = before_kind bytes t t.kind

-- The token is that word, where b stands behind it.
pub data IsWord (bytes : Bytes) (t : Token) (b : Before) : Kind → Word → Type 0 where
  variable_token : IsWord bytes t b tokens.variable (variable (bytes_of bytes t))
  integer_token : (z : ℕ) → IsWord bytes t b (tokens.integer z) (integer z)
  name_token : IsWord bytes t b tokens.name (name (bytes_of bytes t))
  symbol_token : bytes_eq (bytes_of bytes t) (codes "-") ≡ false
      → IsWord bytes t b tokens.symbol (name (bytes_of bytes t))
  minus_token : bytes_eq (bytes_of bytes t) (codes "-") ≡ true → (b ≡ bracket → ⊥)
      → IsWord bytes t b tokens.symbol (minus b)
  functor_token : bytes_eq (bytes_of bytes t) (codes "-") ≡ true → b ≡ bracket
      → IsWord bytes t b tokens.symbol (name (bytes_of bytes t))
  quoted_token : (text : Bytes) → Quotes (bytes_of bytes t) text → IsWord bytes t b tokens.quoted (quoted text)
  open_bracket_token : IsWord bytes t b tokens.open_bracket (open_bracket (not t.layout_before))
  close_bracket_token : IsWord bytes t b tokens.close_bracket close_bracket
  open_list_token : IsWord bytes t b tokens.open_list open_list
  close_list_token : IsWord bytes t b tokens.close_list close_list
  open_brace_token : IsWord bytes t b tokens.open_brace open_brace
  close_brace_token : IsWord bytes t b tokens.close_brace close_brace
  comma_token : IsWord bytes t b tokens.comma comma
  semicolon_token : IsWord bytes t b tokens.semicolon semicolon
  bar_token : IsWord bytes t b tokens.bar bar
  end_token : IsWord bytes t b tokens.end_of_clause end

-- The tokens, behind which a comes next, are these words.
pub data AreWords (bytes : Bytes) (a : Answer) : List Token → List Placed → Type 0 where
  nothing : AreWords bytes a [] []
  more : (t : Token) (ts : List Token) (w : Word) (ws : List Placed) → IsWord bytes t (before bytes ts a) t.kind w
      → AreWords bytes a ts ws
      → AreWords bytes a (t ∷ ts) (record { word = w; place = t.start } ∷ ws)
