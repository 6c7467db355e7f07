-- What sources in memory give.
use Rattle.std.proofs.Common.{◌≡◌, ℕ, ◌+◌, ◌-◌, List, ◌++◌, length, take, drop, ap, sym, ◌∙◌, arith, length-drop}
use Rattle.std.proofs.lemmas.List.{take-append-drop, drop-drop, take_at, take_all}
use Rattle.std.proofs.Math.Seq.{take-add}

-- a slice to the end is all that stands behind its beginning
pub to_the_end : (at : ℕ) (text : List ℕ) → take (length text - at) (drop at text) ≡ drop at text
to_the_end at text = take_all (length text - at) (drop at text) (omega (arith, length-drop at text))

-- a piece that was copied to the front of other bytes, and the rest, are what there was
pub given_then_rest : (at n : ℕ) (text piece tail : List ℕ) → length piece ≡ n → piece ≡ take n (drop at text)
    → drop at text ≡ take n (piece ++ tail) ++ drop (at + n) text
given_then_rest at n text piece tail long is =
    sym (ap (λ l. l ++ drop (at + n) text) (take_at piece tail n long ∙ is) ∙ ap (λ l. take n (drop at text) ++ l) (sym (drop-drop n at text))
    ∙ take-append-drop n (drop at text))

-- and it stands behind those that were given before
pub given_more : (at n : ℕ) (text piece tail : List ℕ) → length piece ≡ n → piece ≡ take n (drop at text)
    → take (at + n) text ≡ take at text ++ take n (piece ++ tail)
given_more at n text piece tail long is = take-add at n text ∙ ap (λ l. take at text ++ l) (sym (take_at piece tail n long ∙ is))
