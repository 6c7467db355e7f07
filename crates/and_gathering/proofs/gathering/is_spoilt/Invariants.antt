use Rattle.std.proofs.Common.{◌≡◌, false, All, take}
use Rattle.and_handed.specs.declared.told.HandedOn.{HandedOn}
use Rattle.and_gathering.proofs.gathering.is_spoilt.Given as goal

abbrev pub invariant-loop-told : goal.invariant-loop-told
invariant-loop-told l = All (λ (t : HandedOn). t.is_spoilt ≡ false) (take l.told-index l.tolds)
