use Rattle.std.proofs.Common.{◌≡◌, Some, All, take}
use Rattle.and_model.specs.declared.goal.Goal.{Goal}
use Rattle.and_handed.specs.declared.told.Cause.TheVariants.{NoCandidate}
use Rattle.and_handed.specs.declared.told.HandedOn.{HandedOn}
use Rattle.and_gathering.specs.Gathering.{IsThere}
use Rattle.and_gathering.proofs.gathering.are_there.Given as goal

abbrev pub invariant-loop-told : goal.invariant-loop-told
invariant-loop-told l = All (λ (t : HandedOn). (goal : Goal) → t.cause ≡ Some (NoCandidate goal) → IsThere l.goals l.made goal) (take l.told-index l.tolds)
