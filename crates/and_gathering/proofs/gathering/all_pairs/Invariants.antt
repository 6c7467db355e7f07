use Rattle.std.proofs.Common.{◌≡◌, flat_map, take}
use Rattle.and_handed.specs.declared.told.HandedOn.{HandedOn}
use Rattle.and_gathering.proofs.gathering.all_pairs.Given as goal

abbrev pub invariant-loop-told : goal.invariant-loop-told
invariant-loop-told l = l.pairs ≡ flat_map (λ (t : HandedOn). t.pairs) (take l.told-index l.tolds)
