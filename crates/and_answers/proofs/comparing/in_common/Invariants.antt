use Rattle.std.proofs.Common.{◌≡◌, ◌≤◌, length, take, drop}
use Rattle.and_answers.proofs.comparing.in_common.Given as goal

abbrev pub invariant-loop-count : goal.invariant-loop-count
invariant-loop-count l =
    (take l.count (drop l.one_from l.one) ≡ take l.count (drop l.other_from l.other)) × (l.count ≤ length (drop l.other_from l.other))
