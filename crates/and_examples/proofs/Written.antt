-- What is written: the lines of a listing, and the last ones.
use Rattle.std.proofs.Common.{◌≡◌, ◌-◌, ◌^◌, [], ◌∷◌, ◌++◌, refl, arith, codes}
use Rattle.std.specs.Fmt.{digits}
use Rattle.and_model.specs.Listing.{answer}
use Rattle.and_model.specs.Output.{limit_met, complete, complete_with, counted, last_lines, Output}
use Rattle.and_model.specs.declared.limits.TheConstants.{DEFAULT_LIMIT}
use Rattle.and_examples.specs.Ending.{entry}
use Rattle.and_examples.specs.Texts.{naturals, equal_text, circle}
use Rattle.and_examples.proofs.NatCut
use Rattle.and_examples.proofs.EqualAnswers
use Rattle.and_examples.proofs.Circle

-- nat-cut with the limit 6
pub met : Output naturals 6 limit_met (codes "X = z" ++ 10 ∷ codes "X = s(z)" ++ 10 ∷ codes "% limit met" ++ 10 ∷ [])
met = (entry (1 ∷ []) (answer (codes "X = z")) ∷ entry (2 ∷ 1 ∷ []) (answer (codes "X = s(z)")) ∷ [], NatCut.listing, refl)

-- equal-answers with the limit 3
pub all_found : Output equal_text 3 complete (codes "X = a" ++ 10 ∷ codes "X = a" ++ 10 ∷ codes "% complete" ++ 10 ∷ [])
all_found = (entry (1 ∷ []) (answer (codes "X = a")) ∷ entry (2 ∷ []) (answer (codes "X = a")) ∷ [], EqualAnswers.listing 3 (omega arith), refl)

-- occurs-check
pub none_found : Output circle DEFAULT_LIMIT complete (codes "% complete" ++ 10 ∷ [])
none_found = ([], Circle.listing DEFAULT_LIMIT, refl)

pub numbers : last_lines (complete_with 15 44) ≡ codes "% complete" ++ 10 ∷ codes "% forks 15 failed 44" ++ 10 ∷ []
unfolding digits
numbers = refl

-- 2^64 - 1 is 18446744073709551615
pub counts : (counted (2 ^ 64 - 1) ≡ codes "18446744073709551615") × (counted (2 ^ 64) ≡ codes "18446744073709551615") × (counted 0 ≡ codes "0")
unfolding digits
counts = (refl, refl, refl)
