use Rattle.std.proofs.Common.{◌≡◌, ◌+◌, drop}
use Rattle.std.specs.List.{prefix_len}
use Rattle.and_lex.specs.Scanning.{is_no_newline}
use Rattle.and_lex.proofs.classes.line_len.Given as goal

abbrev pub invariant-loop-index : goal.invariant-loop-index
invariant-loop-index l = l.index + prefix_len is_no_newline (drop l.index l.bytes) ≡ prefix_len is_no_newline l.bytes
