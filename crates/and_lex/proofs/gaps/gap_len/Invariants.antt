use Rattle.std.proofs.Common.{◌≤◌, ◌-◌, length, take, drop}
use Rattle.and_language.specs.Tokens.{Separates}
use Rattle.and_lex.proofs.gaps.gap_len.Given as goal

abbrev pub invariant-loop-gap : goal.invariant-loop-gap
invariant-loop-gap l = (l.gap ≤ length l.bytes) × Separates (take l.gap l.bytes) (drop l.gap l.bytes)

abbrev pub decreases-loop-gap : goal.decreases-loop-gap
decreases-loop-gap l = length l.initial.bytes - l.gap
