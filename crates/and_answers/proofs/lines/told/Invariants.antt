use Rattle.std.proofs.Common.{◌≡◌, drop}
use Rattle.and_answers.specs.LinePieces.{last_line_from}
use Rattle.and_answers.proofs.lines.told.Given as goal

abbrev pub invariant-loop-piece : goal.invariant-loop-piece
invariant-loop-piece l = last_line_from l.line.items (drop l.piece-index l.pieces) ≡ last_line_from l.whole l.pieces
