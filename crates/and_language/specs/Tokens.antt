-- Tokens, and the places of a text at which none can be read (after ISO 13211-1, section 6.4; the choice is this
-- project's own).
use Rattle.std.specs.Prelude.{ℕ, suc, ◌+◌, ◌-◌, ◌*◌, ◌<◌, ◌≤◌, ◌≡◌, ◌⊎◌, Bool, true, false, not, cond, ltb, ◌||◌}
use Rattle.std.specs.Prelude.{◌&&◌, List, [], ◌∷◌, ◌++◌, length, take, drop, nat_eq, codes, IsUtf8}
use Rattle.std.specs.Str.{IsValidUpTo, bytes_eq}
use Rattle.and_model.specs.Lines.{Bytes, is_between, is_word, is_symbol, holds_of_all, holds_of_some, is_plain_name}
use Rattle.and_model.specs.Lines.{begins_comment}

pub data Kind : Type 0 where
  variable : Kind
  name : Kind
  quoted : Kind
  symbol : Kind
  integer : ℕ → Kind
  open_bracket : Kind
  close_bracket : Kind
  open_list : Kind
  close_list : Kind
  open_brace : Kind
  close_brace : Kind
  comma : Kind
  semicolon : Kind
  bar : Kind
  end_of_clause : Kind

-- A token: what it is, its place, the place behind it, and whether layout or a comment stands right before it.
pub record Token : Type 0 where
  pub kind : Kind
  pub start : ℕ
  pub end : ℕ
  pub layout_before : Bool

-- Why no token can be read, and the place of that.
pub data Fault : Type 0 where
  syntax : ℕ → Fault
  not_text : ℕ → Fault
  too_wide : ℕ → Fault
  not_pure : ℕ → Fault

-- What comes next in a text.
pub data Answer : Type 0 where
  no_more : Answer
  one : Token → Answer
  none_for : Fault → Answer

-- the number of the line that a place is on
abbrev pub newlines : Bytes → ℕ
newlines [] = 0
newlines (b ∷ bs) = cond (nat_eq b 10) (suc (newlines bs)) (newlines bs)

abbrev pub line_at : Bytes → ℕ → ℕ
line_at bytes place = suc (newlines (take place bytes))

-- the first of the bytes is such a one
abbrev pub begins : (ℕ → Bool) → Bytes → Bool
begins p [] = false
begins p (b ∷ bs) = p b

-- space, tab, newline or carriage return
abbrev pub is_layout : ℕ → Bool
is_layout b = nat_eq b 32 || nat_eq b 9 || nat_eq b 10 || nat_eq b 13

abbrev pub is_newline : ℕ → Bool
is_newline b = nat_eq b 10

-- a capital letter or `_`
abbrev pub is_capital : ℕ → Bool
is_capital b = is_between 65 90 b || nat_eq b 95

abbrev pub is_digit : ℕ → Bool
is_digit b = is_between 48 57 b

-- a capital letter or `_`, and then letters, digits and `_`
abbrev pub is_variable : Bytes → Bool
is_variable [] = false
is_variable (b ∷ bs) = is_capital b && holds_of_all is_word bs

-- one or more digits
abbrev pub is_numeral : Bytes → Bool
is_numeral [] = false
is_numeral (b ∷ bs) = is_digit b && holds_of_all is_digit bs

-- the number that is written with the digits of n and then these
abbrev pub number_behind : ℕ → Bytes → ℕ
number_behind n [] = n
number_behind n (b ∷ bs) = number_behind (n * 10 + (b - 48)) bs

abbrev pub number_of : Bytes → ℕ
number_of bs = number_behind 0 bs

-- one or more symbol characters
abbrev pub is_run : Bytes → Bool
is_run [] = false
is_run (b ∷ bs) = holds_of_all is_symbol (b ∷ bs)

-- A numeral with these bytes behind it is not pure: a letter, `_`, a quote, or a point and a digit.
abbrev pub goes_on : Bytes → Bool
goes_on [] = false
goes_on (b ∷ bs) = is_word b || nat_eq b 39 || (nat_eq b 46 && begins is_digit bs)

-- the symbols `\+` and `->`, which pure programs do not have
abbrev pub is_impure : Bytes → Bool
is_impure s = bytes_eq s (codes "\\+") || bytes_eq s (codes "->")

-- one of ! " and the backquote
abbrev pub is_impure_character : ℕ → Bool
is_impure_character b = holds_of_some (nat_eq b) (codes "!\"`")

-- one of ( ) [ ] { } , ; | and the quote
abbrev pub is_solo : ℕ → Bool
is_solo b = holds_of_some (nat_eq b) (codes "()[]{},;|'")

-- The written bytes between quotes, and the text that they name.
pub data Names : Bytes → Bytes → Type 0 where
  nothing : Names [] []
  plain : (b : ℕ) (c t : Bytes) → holds_of_some (nat_eq b) (39 ∷ 92 ∷ 10 ∷ []) ≡ false → Names c t
      → Names (b ∷ c) (b ∷ t)
  doubled_quote : (c t : Bytes) → Names c t → Names (39 ∷ 39 ∷ c) (39 ∷ t)
  escaped_quote : (c t : Bytes) → Names c t → Names (92 ∷ 39 ∷ c) (39 ∷ t)
  escaped_backslash : (c t : Bytes) → Names c t → Names (92 ∷ 92 ∷ c) (92 ∷ t)
  escaped_newline : (c t : Bytes) → Names c t → Names (92 ∷ 110 ∷ c) (10 ∷ t)

-- the bytes of a quoted token, and the text that they name
abbrev pub Quotes : Bytes → Bytes → Type 0
Quotes bs t = (c : Bytes) × (bs ≡ 39 ∷ c ++ 39 ∷ []) × Names c t

-- `*/` stands somewhere in the bytes
abbrev pub closes_comment : Bytes → Bool
closes_comment [] = false
closes_comment (b ∷ bs) = (nat_eq b 42 && begins (nat_eq 47) bs) || closes_comment bs

-- The bytes gap, with the rest behind them, are layout and comments.
pub data Separates : Bytes → Bytes → Type 0 where
  nothing : (rest : Bytes) → Separates [] rest
  layout : (b : ℕ) (gap rest : Bytes) → is_layout b ≡ true → Separates gap rest → Separates (b ∷ gap) rest
  line_comment : (c gap rest whole : Bytes) → whole ≡ 37 ∷ c ++ gap → holds_of_some is_newline c ≡ false
      → gap ++ rest ≡ [] ⊎ begins is_newline (gap ++ rest) ≡ true
      → Separates gap rest → Separates whole rest
  comment : (c gap rest whole : Bytes) → whole ≡ 47 ∷ 42 ∷ c ++ 42 ∷ 47 ∷ gap → closes_comment (c ++ 42 ∷ []) ≡ false
      → Separates gap rest → Separates whole rest

-- no layout, and no comment that is closed, begins the bytes
abbrev pub is_separated : Bytes → Bool
is_separated [] = true
is_separated (b ∷ bs) = not (is_layout b || nat_eq b 37
    || (nat_eq b 47 && begins (nat_eq 42) bs && closes_comment (drop 1 bs)))

abbrev pub is_some : Bytes → Bool
is_some [] = false
is_some (b ∷ bs) = true

-- The text is looked at up to its end, or up to the first bytes in it that are not UTF-8: then it is cut.
module _ (cut : Bool) where
  -- With these bytes behind it a point ends a clause: layout, `%`, or the end of the text.
  abbrev pub ends_clause : Bytes → Bool
  ends_clause [] = not cut
  ends_clause (b ∷ bs) = is_layout b || nat_eq b 37

  -- The bytes are a token of that kind, and with the rest behind them it is not longer.
  abbrev pub IsToken : Kind → Bytes → Bytes → Type 0
  IsToken variable bs rest = (is_variable bs ≡ true) × (begins is_word rest ≡ false)
  IsToken name bs rest = (is_plain_name bs ≡ true) × (begins is_word rest ≡ false)
  IsToken quoted bs rest = ((t : Bytes) × Quotes bs t) × (begins (nat_eq 39) rest ≡ false)
  IsToken symbol bs rest =
      (is_run bs ≡ true) × (begins is_symbol rest ≡ false) × (begins_comment bs ≡ false) × (is_impure bs ≡ false)
      × (bs ≡ codes "." → ends_clause rest ≡ false)
  IsToken (integer z) bs rest = (is_numeral bs ≡ true) × (begins is_digit rest ≡ false) × (goes_on rest ≡ false)
      × (z ≡ number_of bs) × (z ≤ 9223372036854775808)
  IsToken open_bracket bs rest = bs ≡ codes "("
  IsToken close_bracket bs rest = bs ≡ codes ")"
  IsToken open_list bs rest = bs ≡ codes "["
  IsToken close_list bs rest = bs ≡ codes "]"
  IsToken open_brace bs rest = bs ≡ codes "{"
  IsToken close_brace bs rest = bs ≡ codes "}"
  IsToken comma bs rest = bs ≡ codes ","
  IsToken semicolon bs rest = bs ≡ codes ";"
  IsToken bar bs rest = bs ≡ codes "|"
  IsToken end_of_clause bs rest = (bs ≡ codes ".") × (ends_clause rest ≡ true)

  -- The fault of what the text ends within: that it is not text, or syntax at the place where the token or comment
  -- begins.
  abbrev pub broken : ℕ → ℕ → Fault
  broken start behind = cond cut (not_text behind) (syntax start)

  -- The bytes, of which the first stands at the place p, begin with something that is no token.
  pub data IsFault (p : ℕ) (bs : Bytes) : Fault → Type 0 where
    bytes_at_fault : bs ≡ [] → cut ≡ true → IsFault p bs (not_text p)
    open_comment : (c : Bytes) → bs ≡ 47 ∷ 42 ∷ c → closes_comment c ≡ false → IsFault p bs (broken p (p + length bs))
    open_quote : (c t : Bytes) → bs ≡ 39 ∷ c → Names c t → IsFault p bs (broken p (p + length bs))
    open_escape : (c t : Bytes) → bs ≡ 39 ∷ c ++ 92 ∷ [] → Names c t → IsFault p bs (broken p (p + length bs))
    raw_newline : (c t rest : Bytes) → bs ≡ 39 ∷ c ++ 10 ∷ rest → Names c t → IsFault p bs (syntax p)
    escaped_raw_newline : (c t rest : Bytes) → bs ≡ 39 ∷ c ++ 92 ∷ 10 ∷ rest → Names c t → IsFault p bs (syntax p)
    unknown_escape : (c t rest : Bytes) (b : ℕ) → bs ≡ 39 ∷ c ++ 92 ∷ b ∷ rest → Names c t
        → holds_of_some (nat_eq b) (39 ∷ 92 ∷ 110 ∷ 10 ∷ []) ≡ false
        → IsFault p bs (not_pure (p + suc (length c)))
    numeral_goes_on : (ds rest : Bytes) → bs ≡ ds ++ rest → is_numeral ds ≡ true → begins is_digit rest ≡ false
        → goes_on rest ≡ true → IsFault p bs (not_pure p)
    wide_numeral : (ds rest : Bytes) → bs ≡ ds ++ rest → is_numeral ds ≡ true → begins is_digit rest ≡ false
        → goes_on rest ≡ false → 9223372036854775808 < number_of ds
        → IsFault p bs (too_wide p)
    impure_symbol : (s rest : Bytes) → bs ≡ s ++ rest → begins is_symbol rest ≡ false → is_impure s ≡ true
        → IsFault p bs (not_pure p)
    impure_character : (b : ℕ) (rest : Bytes) → bs ≡ b ∷ rest → is_impure_character b ≡ true → IsFault p bs (not_pure p)
    other_character : (b : ℕ) (rest : Bytes) → bs ≡ b ∷ rest
        → (is_word b || is_symbol b || is_solo b || is_impure_character b) ≡ false → IsFault p bs (syntax p)

  -- What comes next, where these bytes stand at the place p.
  pub data Next (p : ℕ) (bs : Bytes) : Answer → Type 0 where
    finished : Separates bs [] → cut ≡ false → Next p bs no_more
    read : (gap t rest : Bytes) (k : Kind) → bs ≡ gap ++ (t ++ rest) → Separates gap (t ++ rest)
        → is_separated (t ++ rest) ≡ true → IsToken k t rest
        → Next p bs (one (record {
          kind = k;
          start = p + length gap;
          end = p + length gap + length t;
          layout_before = is_some gap;
        }))
    stopped : (gap rest : Bytes) (f : Fault) → bs ≡ gap ++ rest → Separates gap rest → is_separated rest ≡ true
        → IsFault (p + length gap) rest f → Next p bs (none_for f)

-- The first n bytes are the longest front of the text that is UTF-8.
abbrev pub IsFront : Bytes → ℕ → Type 0
IsFront bytes n = ((n ≡ length bytes) × IsUtf8 bytes) ⊎ IsValidUpTo bytes n

-- What comes next in the text from the place p on.
abbrev pub Comes : Bytes → ℕ → Answer → Type 0
Comes bytes p a = (n : ℕ) × IsFront bytes n × Next (ltb n (length bytes)) p (drop p (take n bytes)) a

-- From the place p on the text has these tokens, in order, and then a comes next.
pub data HasTokens (bytes : Bytes) (a : Answer) : ℕ → List Token → Type 0 where
  no_token : (p : ℕ) → Comes bytes p a → HasTokens bytes a p []
  token : (p : ℕ) (t : Token) (ts : List Token) → Comes bytes p (one t) → HasTokens bytes a t.end ts
      → HasTokens bytes a p (t ∷ ts)

-- no token comes next: the text ends, or has a fault
abbrev pub is_last : Answer → Bool
is_last no_more = true
is_last (one t) = false
is_last (none_for f) = true
