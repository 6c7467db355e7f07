use Rattle.std.proofs.Common.{◌≡◌, ◌++◌, map, take, drop}
use Rattle.and_answers.specs.LinePieces.{moved_on}
use Rattle.and_answers.proofs.entries.move_on.Given as goal

abbrev pub invariant-loop-entry : goal.invariant-loop-entry
invariant-loop-entry l = l.entries ≡ map (moved_on l.by) (take l.entry-index l.fn.entries) ++ drop l.entry-index l.fn.entries
