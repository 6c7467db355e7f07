use Rattle.std.proofs.Common.{◌-◌, length, take, drop, ap, sym, ◌∙◌, arith}
use Rattle.std.proofs.lemmas.List.{take_all, length-drop}
use Rattle.and_answers.specs.declared.piece.LinePiece.{LinePiece}
use Rattle.and_answers.proofs.LinePieceLemmas.{piece_line}
use Rattle.and_answers.proofs.lines.piece_behind.Goals as goal

pub returns-clause-line : goal.returns-clause-line
returns-clause-line c =
    let common = c.bytes_in_common-common.result in
    let new = c.bytes-new.result.now in
    let piece : LinePiece = record { common = common; rest = c.in_ok-rest.rest } in
    let far = length-drop common new in
    piece_line c.args.last.now c.args.line.now piece
    (ap (take common) (sym c.bytes-old.ensures) ∙ c.bytes_in_common-common.ensures.same ∙ ap (take common) c.bytes-new.ensures)
    (c.in_ok-rest.ensures ∙ take_all (length new - common) (drop common new) (omega (arith, far)) ∙ ap (drop common) c.bytes-new.ensures)
