use Rattle.std.proofs.Common.{◌≡◌, ◌++◌}
use Rattle.and_gen.specs.Layered as specs
use Rattle.and_gen.proofs.write_along.Given as goal

-- the edges up to this place stand behind what there was
abbrev pub invariant-writing : goal.invariant-writing
invariant-writing l = l.text ≡ l.initial.text ++ specs.along l.at l.rail
