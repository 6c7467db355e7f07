use Rattle.std.proofs.Common.{◌-◌, ap, ◌∙◌, arith}
use Rattle.std.proofs.lemmas.List.{get_or_default}
use Rattle.and_answers.specs.declared.piece.LinePiece.{LinePiece}
use Rattle.and_answers.proofs.LinePieceLemmas.{begins_here}
use Rattle.and_answers.proofs.lines.whole_before.Goals as goal

pub returns-then-pieces-first-eq0-clause-whole : goal.returns-then-pieces-first-eq0-clause-whole
returns-then-pieces-first-eq0-clause-whole c = λ d.
    ap (λ (p : LinePiece). p.common)
    (get_or_default c.args.pieces.now (c.args.place - c.loop-back.back) d c.index-pieces-first.result (omega arith))
    ∙ c.if-pieces-first-eq0.true

pub returns-clause-whole : goal.returns-clause-whole
returns-clause-whole c = λ d. begins_here c.args.pieces.now d (omega arith) c.requires.begins
