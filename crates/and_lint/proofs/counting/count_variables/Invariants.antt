use Rattle.std.proofs.Common.{◌≡◌, drop, length}
use Rattle.and_lint.specs.Kept.{all_counted}
use Rattle.and_lint.proofs.counting.count_variables.Given as goal

abbrev pub invariant-loop-number : goal.invariant-loop-number
invariant-loop-number l =
    (length l.counts ≡ 256)
    × (all_counted l.counts (drop l.number-index l.variables) ≡ all_counted l.fn.counts l.variables)
