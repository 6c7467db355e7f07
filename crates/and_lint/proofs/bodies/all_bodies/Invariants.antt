use Rattle.std.proofs.Common.{suc, ◌≡◌, ◌≤◌, length}
use Rattle.and_program.specs.Loaded.{program_of, skeleton_of}
use Rattle.and_lint.proofs.Growing.{TellsFrom}
use Rattle.and_lint.proofs.bodies.all_bodies.Given as goal

abbrev pub invariant-loop-left : goal.invariant-loop-left
invariant-loop-left l =
    let P = program_of l.loaded in
    (l.left ≤ suc (length P.clauses)) × (length l.bodies.items ≡ suc (length P.clauses))
    × TellsFrom (skeleton_of l.loaded).nodes P l.bodies.items l.left

abbrev pub decreases-loop-left : goal.decreases-loop-left
decreases-loop-left l = l.left
