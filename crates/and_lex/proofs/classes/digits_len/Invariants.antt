use Rattle.std.proofs.Common.{◌≡◌, ◌+◌, drop}
use Rattle.std.specs.List.{prefix_len}
use Rattle.and_language.specs.Tokens.{is_digit}
use Rattle.and_lex.proofs.classes.digits_len.Given as goal

abbrev pub invariant-loop-index : goal.invariant-loop-index
invariant-loop-index l = l.index + prefix_len is_digit (drop l.index l.bytes) ≡ prefix_len is_digit l.bytes
