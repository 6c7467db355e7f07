use Rattle.std.proofs.Common.{◌≡◌, ◌++◌, drop}
use Rattle.and_model.specs.Lines.{all_escaped}
use Rattle.and_quoting.proofs.write_name.Given as goal

abbrev pub invariant-loop-byte : goal.invariant-loop-byte
invariant-loop-byte l = l.text ++ all_escaped (drop l.byte-index l.name) ≡ l.initial.text ++ all_escaped l.name
