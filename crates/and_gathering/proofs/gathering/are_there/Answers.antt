use Rattle.std.proofs.Common.{◌≡◌, Some}
use Rattle.and_model.specs.declared.goal.Goal.{Goal}
use Rattle.and_handed.specs.declared.told.Cause.TheVariants.{NoCandidate}
use Rattle.and_handed.specs.declared.told.HandedOn.{HandedOn}
use Rattle.and_gathering.specs.Gathering.{IsThere}
use Rattle.and_gathering.proofs.Loops.{all_next, all_done}
use Rattle.and_gathering.proofs.gathering.are_there.Goals as goal

pub loop-told-preserved : goal.loop-told-preserved
loop-told-preserved c =
    all_next (λ (t : HandedOn). (g : Goal) → t.cause ≡ Some (NoCandidate g) → IsThere c.args.goals.now c.args.made.now g) c.args.tolds.now
    c.loop-told.told-index c.told-item.result c.loop-told.invariant c.loop-told-test.true c.told-item.is
    (c.is_cause_there.ensures c.if-not-is_cause_there.false)

pub returns : goal.returns
returns c = λ _.
    all_done (λ (t : HandedOn). (g : Goal) → t.cause ≡ Some (NoCandidate g) → IsThere c.args.goals.now c.args.made.now g) c.args.tolds.now
    c.loop-told.told-index c.loop-told.invariant c.loop-told-test.false
