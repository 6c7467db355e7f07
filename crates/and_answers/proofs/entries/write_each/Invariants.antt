use Rattle.std.proofs.Common.{◌≡◌, ◌++◌, map, drop}
use Rattle.and_model.specs.Output.{lines_of}
use Rattle.and_answers.specs.Kept.{entry_of}
use Rattle.and_answers.proofs.entries.write_each.Given as goal

abbrev pub invariant-loop-entry : goal.invariant-loop-entry
invariant-loop-entry l = l.text ++ lines_of (map entry_of (drop l.entry-index l.entries)) ≡ l.fn.text ++ lines_of (map entry_of l.entries)
