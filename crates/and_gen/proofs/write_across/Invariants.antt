use Rattle.std.proofs.Common.{◌≡◌, ◌+◌, ◌++◌}
use Rattle.and_gen.specs.Layered as specs
use Rattle.and_gen.proofs.write_across.Given as goal

-- the edges before this place stand behind what there was
abbrev pub invariant-writing : goal.invariant-writing
invariant-writing l = l.text ≡ l.initial.text ++ specs.lines (λ at. specs.edge (specs.place l.rail at) (specs.place (l.rail + 1) at)) l.at
