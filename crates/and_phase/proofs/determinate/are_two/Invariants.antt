use Rattle.std.proofs.Common.{◌≡◌}
use Rattle.and_phase.proofs.determinate.are_two.Given as goal

abbrev pub invariant-loop-place : goal.invariant-loop-place
invariant-loop-place g l = l.branch ≡ l.initial.branch
