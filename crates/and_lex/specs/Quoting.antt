-- What the bytes behind an opening quote come to, computed plainly.
use Rattle.std.specs.Prelude.{ℕ, suc, ◌<◌, cond, ◌||◌, [], ◌∷◌, nat_eq}
use Rattle.and_model.specs.Lines.{Bytes, holds_of_some}
use Rattle.and_lex.specs.declared.quotes.QuoteEnd.{QuoteEnd}
use Rattle.and_lex.specs.declared.quotes.QuoteEnd.TheVariants.{Closed, Open, Newline, Unknown}

-- The end of a quoted token, where n of its bytes stand before these; behind a quote or a backslash that stands at n.
abbrev mutual
  pub quote_end : ℕ → Bytes → QuoteEnd
  quote_end n [] = Open
  quote_end n (b ∷ bs) = cond (nat_eq b 39) (end_behind_quote n bs)
      (cond (nat_eq b 92) (end_behind_backslash n bs) (cond (nat_eq b 10) Newline (quote_end (suc n) bs)))

  pub end_behind_quote : ℕ → Bytes → QuoteEnd
  end_behind_quote n [] = Closed n
  end_behind_quote n (b ∷ bs) = cond (nat_eq b 39) (quote_end (suc (suc n)) bs) (Closed n)

  pub end_behind_backslash : ℕ → Bytes → QuoteEnd
  end_behind_backslash n [] = Open
  end_behind_backslash n (b ∷ bs) = cond (holds_of_some (nat_eq b) (39 ∷ 92 ∷ 110 ∷ [])) (quote_end (suc (suc n)) bs)
      (cond (nat_eq b 10) Newline (Unknown n))

-- it stands before so many bytes
abbrev pub EndsWithin : ℕ → QuoteEnd → Type 0
EndsWithin len (Closed n) = n < len
EndsWithin len Open = Unit {0}
EndsWithin len Newline = Unit {0}
EndsWithin len (Unknown n) = n < len

-- The text that is written between quotes; and behind a quote or a backslash that begins two bytes for one.
abbrev mutual
  pub text_between : Bytes → Bytes
  text_between [] = []
  text_between (b ∷ bs) = cond (nat_eq b 39 || nat_eq b 92) (text_behind_escape bs) (b ∷ text_between bs)

  pub text_behind_escape : Bytes → Bytes
  text_behind_escape [] = []
  text_behind_escape (b ∷ bs) = cond (nat_eq b 110) 10 b ∷ text_between bs
