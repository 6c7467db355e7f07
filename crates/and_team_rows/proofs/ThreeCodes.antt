-- Entries of three codes.
use Rattle.std.proofs.Common.{◌≡◌, ◌≢◌, List, [], ◌∷◌, map, arith}
use Rattle.std.proofs.lemmas.List.Elements.{All-nil}
use Rattle.std.proofs.lemmas.List.Kept.{AllPairs-cons}
use Rattle.and_model.proofs.Tested.{of_one, of_two}
use Rattle.and_model.specs.Listing.{Entry}
use Rattle.and_answers.specs.Order.{HasDistinctCodes}

-- entries with these codes have different ones
pub three_apart : (es : List Entry) → map (λ e. e.code) es ≡ (2 ∷ []) ∷ (1 ∷ []) ∷ (3 ∷ []) ∷ [] → HasDistinctCodes es
three_apart [] is = absurd (cc)
three_apart (a ∷ []) is = absurd (cc)
three_apart (a ∷ b ∷ []) is = absurd (cc)
three_apart (a ∷ b ∷ c ∷ []) is =
    AllPairs-cons (λ x y. x.code ≢ y.code) a (b ∷ c ∷ []) (of_two (λ (y : Entry). a.code ≢ y.code) b c (λ same. cc) (λ same. cc))
    (AllPairs-cons (λ x y. x.code ≢ y.code) b (c ∷ []) (of_one (λ (y : Entry). b.code ≢ y.code) c (λ same. cc))
    (AllPairs-cons (λ x y. x.code ≢ y.code) c [] (All-nil (λ (y : Entry). c.code ≢ y.code)) (λ i j d before below. absurd (omega arith))))
three_apart (a ∷ b ∷ c ∷ d ∷ es) is = absurd (cc)
