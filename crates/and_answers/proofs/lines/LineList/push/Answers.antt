use Rattle.std.proofs.Common.{[], ◌≡◌, ◌∷◌, ◌++◌, List, sym, ap, ◌∙◌, subst}
use Rattle.and_model.specs.Lines.{Bytes}
use Rattle.and_answers.specs.LinePieces.{last_line_from, IsLastLine}
use Rattle.and_answers.specs.declared.piece.LinePiece.{LinePiece}
use Rattle.and_answers.proofs.LinePieceLemmas.{line_pushed, last_pushed}
use Rattle.and_answers.proofs.lines.LineList.push.Goals as goal

pub invariant_of-self-in-Ok-push : goal.invariant_of-self-in-Ok-push
invariant_of-self-in-Ok-push c =
    let ps : List LinePiece = c.self.inside.pieces.items in
    let last : c.in-Some.last ≡ last_line_from [] ps = subst (λ o. IsLastLine ps o) (sym c.take.ensures.value ∙ c.in-Some.is) c.self.invariant.0 in
    last_pushed ps c.push.new.self.items c.in-Some.last c.args.line c.in-Ok.piece c.in-Ok-push.ensures.items last
    c.in-Ok.ensures.line c.in-Ok.ensures.within c.self.invariant.1

pub returns-in-Ok-push-clause-ok : goal.returns-in-Ok-push-clause-ok
returns-in-Ok-push-clause-ok c =
    let ps : List LinePiece = c.self.inside.pieces.items in
    let last : c.in-Some.last ≡ last_line_from [] ps = subst (λ o. IsLastLine ps o) (sym c.take.ensures.value ∙ c.in-Some.is) c.self.invariant.0 in
    line_pushed ps c.push.new.self.items c.in-Some.last c.args.line c.in-Ok.piece c.in-Ok-push.ensures.items last c.in-Ok.ensures.line
    ∙ ap (λ (ls : List Bytes). ls ++ c.args.line ∷ []) c.self.view_is
