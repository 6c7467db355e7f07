use Rattle.std.proofs.Common.{◌≡◌, ◌≤◌, length, take}
use Rattle.and_answers.proofs.lines.bytes_in_common.Given as goal

abbrev pub invariant-loop-count : goal.invariant-loop-count
invariant-loop-count l = (take l.count l.one ≡ take l.count l.other) × (l.count ≤ length l.other)
