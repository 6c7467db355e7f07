-- The queries of a text that may have several (this project's own).
use Rattle.std.specs.Prelude.{ℕ, ◌≡◌, ◌&&◌, Bool, true, false, cond, List, [], ◌∷◌, ◌++◌, length, codes}
use Rattle.std.specs.Str.{bytes_eq}
use Rattle.and_model.specs.Lines.{Bytes}
use Rattle.and_language.specs.Tokens.{Token, Kind, Answer, HasTokens, is_last}
use Rattle.and_language.specs.Tokens as tokens
use Rattle.and_language.specs.Words.{bytes_of}

-- a part of a text: the places from its start on that are before its end
pub record Span : Type 0 where
  pub start : ℕ
  pub end : ℕ

abbrev pub span : ℕ → ℕ → Span
span start end = record { start = start; end = end }

abbrev pub is_symbol_kind : Kind → Bool
is_symbol_kind tokens.variable = false
is_symbol_kind tokens.name = false
is_symbol_kind tokens.quoted = false
is_symbol_kind tokens.symbol = true
is_symbol_kind (tokens.integer z) = false
is_symbol_kind tokens.open_bracket = false
is_symbol_kind tokens.close_bracket = false
is_symbol_kind tokens.open_list = false
is_symbol_kind tokens.close_list = false
is_symbol_kind tokens.open_brace = false
is_symbol_kind tokens.close_brace = false
is_symbol_kind tokens.comma = false
is_symbol_kind tokens.semicolon = false
is_symbol_kind tokens.bar = false
is_symbol_kind tokens.end_of_clause = false

abbrev pub is_end_kind : Kind → Bool
is_end_kind tokens.variable = false
is_end_kind tokens.name = false
is_end_kind tokens.quoted = false
is_end_kind tokens.symbol = false
is_end_kind (tokens.integer z) = false
is_end_kind tokens.open_bracket = false
is_end_kind tokens.close_bracket = false
is_end_kind tokens.open_list = false
is_end_kind tokens.close_list = false
is_end_kind tokens.open_brace = false
is_end_kind tokens.close_brace = false
is_end_kind tokens.comma = false
is_end_kind tokens.semicolon = false
is_end_kind tokens.bar = false
is_end_kind tokens.end_of_clause = true

-- the token is the symbol `?-`
abbrev pub is_query_symbol : Bytes → Token → Bool
is_query_symbol bytes t = is_symbol_kind t.kind && bytes_eq (bytes_of bytes t) (codes "?-")

-- where a token stands: at the beginning of a clause; within a clause that is no query; or within a query, which
-- begins at that place
pub data Place : Type 0 where
  fresh : Place
  inside : Place
  asking : ℕ → Place

-- the place of a token behind the first of a clause
abbrev pub begun : Bytes → Token → Place
begun bytes t = cond (is_query_symbol bytes t) (asking t.start) inside

-- where the token behind one that ends no clause stands
abbrev pub goes_on : Bytes → Place → Token → Place
goes_on bytes fresh t = begun bytes t
goes_on bytes inside t = inside
goes_on bytes (asking start) t = asking start

-- where the token behind this one stands
abbrev pub behind : Bytes → Place → Token → Place
behind bytes p t = cond (is_end_kind t.kind) fresh (goes_on bytes p t)

-- the query that is begun, where one is, ends at the place
abbrev pub before_end : Place → ℕ → List Span
before_end fresh end = []
before_end inside end = []
before_end (asking start) end = span start end ∷ []

-- the query that the token ends, if it ends one
abbrev pub at_token : Place → Token → List Span
at_token p t = cond (is_end_kind t.kind) (before_end p t.end) []

-- The queries among these tokens, of which the first stands at that place. Each goes to the end of its End; one that
-- has none goes to the end of the bytes.
abbrev pub queries_among : Bytes → Place → List Token → List Span
queries_among bytes p [] = before_end p (length bytes)
queries_among bytes p (t ∷ ts) = at_token p t ++ queries_among bytes (behind bytes p t) ts

-- These are the queries of the bytes, in order: those among its tokens up to its end or the first fault.
abbrev pub HasQueries : Bytes → List Span → Type 0
HasQueries bytes spans = (ts : List Token) × (a : Answer) × HasTokens bytes a 0 ts × (is_last a ≡ true)
    × (spans ≡ queries_among bytes fresh ts)
