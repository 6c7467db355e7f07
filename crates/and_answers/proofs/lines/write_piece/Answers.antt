use Rattle.std.proofs.Common.{[], ◌+◌, ◌++◌, get_or, refl, ap, sym, ◌∙◌, arith}
use Rattle.and_model.specs.Lines.{Bytes}
use Rattle.and_answers.specs.LinePieces.{last_line_from, lines_from}
use Rattle.and_answers.proofs.LinePieceLemmas.{whole_told, line_told}
use Rattle.and_answers.proofs.lines.write_piece.Goals as goal

pub returns-then-first-place : goal.returns-then-first-place
returns-then-first-place c =
    let ps = c.args.pieces.now in
    let first = c.whole_before-first.result in
    let d = c.index-pieces-first.result in
    let line = c.bytes-whole.ensures
    ∙ sym (whole_told [] ps first d (omega arith) (c.whole_before-first.ensures.whole d))
    ∙ ap (λ i. get_or (lines_from [] ps) i []) c.if-first-place.true in
    c.in_ok-append.ensures ∙ ap (λ (l : Bytes). c.args.text.now ++ l) line

pub returns : goal.returns
returns c =
    let ps = c.args.pieces.now in
    let place = c.args.place in
    let first = c.whole_before-first.result in
    let d = c.index-pieces-first.result in
    let line = c.in_ok-line.ensures ∙ ap (λ (l : Bytes). last_line_from l c.between.result.now) c.bytes-whole.ensures
    ∙ ap (last_line_from (get_or ps first d).rest) c.between.ensures
    ∙ sym (line_told [] ps first (first + 1) (place + 1) place d refl refl c.whole_before-first.ensures.before c.requires.within
    (c.whole_before-first.ensures.whole d)) in
    c.in_ok-append-2.ensures ∙ ap (λ (l : Bytes). c.args.text.now ++ l) (c.deref.ensures.value ∙ line)
