use Rattle.std.proofs.Common.{◌≡◌, [], map, replicate}
use Rattle.and_lint.specs.Held.{nodes_in, numbers_of}
use Rattle.and_lint.proofs.bodies.no_bodies.Given as goal

abbrev pub invariant-loop : goal.invariant-loop
invariant-loop l = (map nodes_in l.bodies.items ≡ replicate l.counter []) × (map numbers_of l.bodies.items ≡ replicate l.counter [])
