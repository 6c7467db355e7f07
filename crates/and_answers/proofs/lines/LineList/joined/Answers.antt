use Rattle.std.proofs.Common.{[], ◌++◌, List, ◌∙◌, ap, sym, subst}
use Rattle.and_model.specs.Lines.{Bytes}
use Rattle.and_answers.specs.LinePieces.{lines_from, BeginsWhole}
use Rattle.and_answers.specs.declared.piece.LinePiece.{LinePiece}
use Rattle.and_answers.proofs.LinePieceLemmas.{lines_joined, begins_joined}
use Rattle.and_answers.proofs.lines.LineList.joined.Goals as goal

pub invariant_of-result : goal.invariant_of-result
invariant_of-result c = (
  tt,
  subst (λ l. BeginsWhole l) (sym c.in-Ok.ensures.items)
      (begins_joined c.self.inside.pieces.items c.other.inside.pieces.items c.self.invariant.1 c.other.invariant.1),
)

pub returns-in-Ok-clause-ok : goal.returns-in-Ok-clause-ok
returns-in-Ok-clause-ok c =
    let ps : List LinePiece = c.self.inside.pieces.items in
    let qs : List LinePiece = c.other.inside.pieces.items in
    ap (lines_from []) c.in-Ok.ensures.items ∙ lines_joined [] ps qs c.other.invariant.1
    ∙ ap (λ (l : List Bytes). l ++ lines_from [] qs) c.self.view_is ∙ ap (λ (l : List Bytes). c.args.self ++ l) c.other.view_is
