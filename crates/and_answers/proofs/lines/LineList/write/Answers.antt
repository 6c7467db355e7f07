use Rattle.std.proofs.Common.{[], ◌++◌, List, length, get_or, ap, sym, ◌∙◌, subst, arith}
use Rattle.and_model.specs.Lines.{Bytes}
use Rattle.and_answers.specs.LinePieces.{lines_from, BeginsWhole}
use Rattle.and_answers.specs.declared.piece.LinePiece.{LinePiece}
use Rattle.and_answers.proofs.LinePieceLemmas.{length_lines}
use Rattle.and_answers.proofs.lines.LineList.write.Goals as goal

pub write_piece-requires-clause-within : goal.write_piece-requires-clause-within
write_piece-requires-clause-within c =
    let long = length_lines [] c.self.inside.pieces.items in
    let same = ap (λ (ls : List Bytes). length ls) c.self.view_is in
    let there = ap (λ (ps : List LinePiece). length ps) c.deref.ensures.value in
    omega (arith, long, same, there, c.requires)

pub write_piece-requires-clause-begins : goal.write_piece-requires-clause-begins
write_piece-requires-clause-begins c = subst (λ ps. BeginsWhole ps) (sym c.deref.ensures.value) c.self.invariant.1

pub returns : goal.returns
returns c =
    c.in_ok-write_piece.ensures
    ∙ ap (λ (ps : List LinePiece). c.args.text.now ++ get_or (lines_from [] ps) c.args.place []) c.deref.ensures.value
    ∙ ap (λ (ls : List Bytes). c.args.text.now ++ get_or ls c.args.place []) c.self.view_is
