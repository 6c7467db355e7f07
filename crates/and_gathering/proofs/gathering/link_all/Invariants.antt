use Rattle.std.proofs.Common.{◌≡◌, ◌++◌, take}
use Rattle.and_gathering.specs.Gathering.{unmet}
use Rattle.and_gathering.proofs.gathering.link_all.Given as goal

abbrev pub invariant-loop-step : goal.invariant-loop-step
invariant-loop-step l = unmet l.links ≡ unmet l.initial.links ++ take l.step-index l.taken
