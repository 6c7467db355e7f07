use Rattle.std.proofs.Common.{◌≡◌, ◌+◌, length, take}
use Rattle.and_gathering.specs.Gathering.{all_made}
use Rattle.and_gathering.proofs.gathering.are_all.Given as goal

abbrev pub invariant-loop-told : goal.invariant-loop-told
invariant-loop-told l = l.left + length (all_made (take l.told-index l.tolds)) ≡ l.count
