use Rattle.std.proofs.lemmas.List.Sorted.{IsPermutation-trans}
use Rattle.and_answers.proofs.merging.as_one.Goals as goal

pub joining-preserved : goal.joining-preserved
joining-preserved c = IsPermutation-trans _ _ _ c.joining.invariant c.in_ok-ahead.ensures.same
