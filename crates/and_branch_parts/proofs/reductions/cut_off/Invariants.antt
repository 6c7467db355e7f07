use Rattle.std.proofs.Common.{◌≡◌, take, length}
use Rattle.and_branch_parts.proofs.reductions.cut_off.Given as goal

abbrev pub invariant-loop-reductions : goal.invariant-loop-reductions
invariant-loop-reductions l = take l.count l.reductions ≡ take l.initial.count l.initial.reductions

abbrev pub decreases-loop-reductions : goal.decreases-loop-reductions
decreases-loop-reductions l = length l.reductions
