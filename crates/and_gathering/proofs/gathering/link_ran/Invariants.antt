use Rattle.std.proofs.Common.{◌≡◌, ◌++◌, take}
use Rattle.and_gathering.specs.Gathering.{all_ran, unmet}
use Rattle.and_gathering.proofs.gathering.link_ran.Given as goal

abbrev pub invariant-loop-told : goal.invariant-loop-told
invariant-loop-told l = unmet l.links ≡ unmet l.initial.links ++ all_ran (take l.told-index l.tolds)
