use Rattle.std.proofs.Common.{ap, ◌∙◌, neg_ℤ, w64}
use Rattle.std.proofs.lemmas.Int.{to_z-of_z}
use Rattle.and_model.specs.Arithmetic.{of_one, in_range}
use Rattle.and_arith.proofs.Numbers.{checked_in_range}
use Rattle.and_arith.proofs.operations.negate.Goals as goal

pub returns : goal.returns
unfolding of_one
returns c = checked_in_range _ _ c.checked_neg.ensures ∙ ap (λ x. in_range (neg_ℤ x)) (to_z-of_z w64 c.args.value c.ranges.value)
