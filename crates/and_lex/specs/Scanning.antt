-- What a text begins with, computed plainly.
use Rattle.std.specs.Prelude.{ℕ, suc, ◌+◌, ◌<◌, ◌≤◌, Bool, false, not, cond, ◌&&◌, [], ◌∷◌, length, take, drop}
use Rattle.std.specs.Prelude.{Option, Some, None, nat_eq, leb, codes}
use Rattle.std.specs.List.{prefix_len}
use Rattle.std.specs.Str.{bytes_eq}
use Rattle.and_model.specs.Lines.{Bytes, is_small, is_word, is_symbol, begins_comment}
use Rattle.and_language.specs.Tokens.{Kind, variable, name, quoted, symbol, integer, open_bracket, close_bracket}
use Rattle.and_language.specs.Tokens.{open_list, close_list, open_brace, close_brace, comma, semicolon, bar}
use Rattle.and_language.specs.Tokens.{end_of_clause, Fault, syntax, not_text, too_wide, not_pure, begins, is_layout}
use Rattle.and_language.specs.Tokens.{is_newline, is_capital, is_digit, is_impure, is_impure_character, goes_on}
use Rattle.and_language.specs.Tokens.{ends_clause, number_of, broken}
use Rattle.and_lex.specs.declared.quotes.QuoteEnd.{QuoteEnd}
use Rattle.and_lex.specs.declared.quotes.QuoteEnd.TheVariants.{Closed, Open, Newline, Unknown}
use Rattle.and_lex.specs.Quoting.{quote_end}

abbrev pub is_no_newline : ℕ → Bool
is_no_newline b = not (is_newline b)

-- the bytes begin with `*/`
abbrev pub ends_comment : Bytes → Bool
ends_comment [] = false
ends_comment (b ∷ bs) = nat_eq b 42 && begins (nat_eq 47) bs

-- How many bytes stand up to the first `*/` and with it, where n stand before these.
abbrev pub comment_end : ℕ → Bytes → Option ℕ
comment_end n [] = None
comment_end n (b ∷ bs) = cond (ends_comment (b ∷ bs)) (Some (suc (suc n))) (comment_end (suc n) bs)

-- the length of a comment, and 0 where it is not closed
abbrev pub comment_len : Option ℕ → ℕ
comment_len None = 0
comment_len (Some n) = suc (suc n)

-- the length of the byte of layout or the whole comment that the bytes begin with
abbrev pub piece_len : Bytes → ℕ
piece_len [] = 0
piece_len (b ∷ bs) =
    cond (is_layout b) 1 (cond (nat_eq b 37) (suc (prefix_len is_no_newline bs))
    (cond (nat_eq b 47 && begins (nat_eq 42) bs) (comment_len (comment_end 0 (drop 1 bs))) 0))

-- What bytes begin with: the end of the text, a token of a kind and a length, or a fault.
pub data Found : Type 0 where
  end_of_text : Found
  one_token : Kind → ℕ → Found
  one_fault : Fault → Found

-- a token has some of that many bytes
abbrev pub IsWithin : ℕ → Found → Type 0
IsWithin len end_of_text = Unit {0}
IsWithin len (one_token k n) = (0 < n) × (n ≤ len)
IsWithin len (one_fault f) = Unit {0}

-- a numeral of these digits, with the rest behind it
abbrev pub numeral_found : ℕ → Bytes → Bytes → Found
numeral_found p ds rest =
    cond (goes_on rest) (one_fault (not_pure p))
    (cond (leb (number_of ds) 9223372036854775808) (one_token (integer (number_of ds)) (length ds))
    (one_fault (too_wide p)))

-- a run of symbol characters, with the rest behind it
abbrev pub symbol_found : Bool → ℕ → Bytes → Bytes → Found
symbol_found cut p run rest =
    cond (begins_comment run) (one_fault (broken cut p (p + length run + length rest)))
    (cond (is_impure run) (one_fault (not_pure p))
    (cond (bytes_eq run (codes ".") && ends_clause cut rest) (one_token end_of_clause 1)
    (one_token symbol (length run))))

abbrev pub found_at_quote_end : Bool → ℕ → ℕ → QuoteEnd → Found
found_at_quote_end cut p len (Closed n) = one_token quoted (suc (suc n))
found_at_quote_end cut p len Open = one_fault (broken cut p (p + suc len))
found_at_quote_end cut p len Newline = one_fault (syntax p)
found_at_quote_end cut p len (Unknown n) = one_fault (not_pure (p + suc n))

-- the quoted token whose opening quote stands at the place p before these bytes
abbrev pub quoted_found : Bool → ℕ → Bytes → Found
quoted_found cut p bs = found_at_quote_end cut p (length bs) (quote_end 0 bs)

-- a character that begins no longer token
abbrev pub single_found : ℕ → ℕ → Found
single_found p b =
    cond (nat_eq b 40) (one_token open_bracket 1)
    (cond (nat_eq b 41) (one_token close_bracket 1)
    (cond (nat_eq b 91) (one_token open_list 1) (cond (nat_eq b 93) (one_token close_list 1)
    (cond (nat_eq b 123) (one_token open_brace 1)
    (cond (nat_eq b 125) (one_token close_brace 1)
    (cond (nat_eq b 44) (one_token comma 1) (cond (nat_eq b 59) (one_token semicolon 1)
    (cond (nat_eq b 124) (one_token bar 1)
    (cond (is_impure_character b) (one_fault (not_pure p)) (one_fault (syntax p)))))))))))

-- What the bytes at the place p begin with, where no layout and no whole comment begins them.
abbrev pub found_at : Bool → ℕ → Bytes → Found
found_at cut p [] = cond cut (one_fault (not_text p)) end_of_text
found_at cut p (b ∷ bs) =
    let word = prefix_len is_word (b ∷ bs) in
    let digits = prefix_len is_digit (b ∷ bs) in
    let symbols = prefix_len is_symbol (b ∷ bs) in
    cond (is_capital b) (one_token variable word)
    (cond (is_small b) (one_token name word)
    (cond (is_digit b) (numeral_found p (take digits (b ∷ bs)) (drop digits (b ∷ bs)))
    (cond (is_symbol b) (symbol_found cut p (take symbols (b ∷ bs)) (drop symbols (b ∷ bs)))
    (cond (nat_eq b 39) (quoted_found cut p bs) (single_found p b)))))
