use Rattle.std.proofs.Common.{length}
use Rattle.and_answers.proofs.CutLemmas.{AreCut}
use Rattle.and_answers.proofs.cutting.runs_of.Given as goal

abbrev pub invariant-cutting : goal.invariant-cutting
invariant-cutting l = AreCut l.fn.entries.items l.entries.items l.pieces.items l.tails.items l.runs.items

abbrev pub decreases-cutting : goal.decreases-cutting
decreases-cutting l = length l.entries.items
