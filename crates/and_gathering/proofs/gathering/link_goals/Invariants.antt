use Rattle.std.proofs.Common.{◌≡◌, ◌++◌, map, take}
use Rattle.and_gathering.specs.Gathering.{unmet}
use Rattle.and_gathering.specs.declared.links.Taken.TheVariants as variants
use Rattle.and_handed.specs.declared.told.Ran as run
use Rattle.and_gathering.proofs.gathering.link_goals.Given as goal

abbrev pub invariant-loop-run : goal.invariant-loop-run
invariant-loop-run l = unmet l.links ≡ unmet l.initial.links ++ map (λ (r : run.Ran). variants.Ran r.goal) (take l.run-index l.ran)
