use Rattle.std.proofs.Common.{◌≡◌, drop}
use Rattle.and_lex.specs.Scanning.{comment_end}
use Rattle.and_lex.proofs.gaps.find_comment_end.Given as goal

abbrev pub invariant-loop-index : goal.invariant-loop-index
invariant-loop-index l = comment_end l.index (drop l.index l.bytes) ≡ comment_end 0 l.bytes
