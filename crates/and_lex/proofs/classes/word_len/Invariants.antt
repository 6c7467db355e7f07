use Rattle.std.proofs.Common.{◌≡◌, ◌+◌, drop}
use Rattle.std.specs.List.{prefix_len}
use Rattle.and_model.specs.Lines.{is_word}
use Rattle.and_lex.proofs.classes.word_len.Given as goal

abbrev pub invariant-loop-index : goal.invariant-loop-index
invariant-loop-index l = l.index + prefix_len is_word (drop l.index l.bytes) ≡ prefix_len is_word l.bytes
