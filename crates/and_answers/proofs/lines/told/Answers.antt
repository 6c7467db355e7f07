use Rattle.std.proofs.Common.{◌++◌, take, ap, ◌∙◌, arith}
use Rattle.and_model.specs.Lines.{Bytes}
use Rattle.and_answers.proofs.LinePieceLemmas.{one_told}
use Rattle.and_answers.proofs.lines.told.Goals as goal

pub loop-piece-preserved : goal.loop-piece-preserved
loop-piece-preserved c =
    let piece = c.piece-item.result in
    let line = c.loop-piece.line.items in
    let new = c.in_ok-extend_from_slice.ensures.items ∙ ap (λ (l : Bytes). l ++ c.bytes.result.now) c.truncate.ensures.items
    ∙ ap (λ (l : Bytes). take piece.common line ++ l) c.bytes.ensures in
    one_told c.args.pieces.now c.loop-piece.piece-index piece line _ _ (omega arith) c.piece-item.is new c.loop-piece.invariant
