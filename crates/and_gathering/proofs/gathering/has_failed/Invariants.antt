use Rattle.std.proofs.Common.{◌≡◌, None, All, take}
use Rattle.and_handed.specs.declared.told.HandedOn.{HandedOn}
use Rattle.and_gathering.proofs.gathering.has_failed.Given as goal

abbrev pub invariant-loop-told : goal.invariant-loop-told
invariant-loop-told l = All (λ (t : HandedOn). t.cause ≡ None) (take l.told-index l.tolds)
