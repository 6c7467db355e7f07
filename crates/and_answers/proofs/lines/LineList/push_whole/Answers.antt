use Rattle.std.proofs.Common.{[], ◌∷◌, ◌++◌, List, refl, ap, ◌∙◌}
use Rattle.and_model.specs.Lines.{Bytes}
use Rattle.and_answers.specs.declared.piece.LinePiece.{LinePiece}
use Rattle.and_answers.proofs.LinePieceLemmas.{whole_pushed, last_whole}
use Rattle.and_answers.proofs.lines.LineList.push_whole.Goals as goal

pub invariant_of-self : goal.invariant_of-self
invariant_of-self c =
    let piece : LinePiece = record { common = 0; rest = c.args.line } in
    last_whole c.self.inside.pieces.items c.push.new.self.items c.args.line piece c.copy_of_long-last.result c.in-Ok.ensures.items refl refl
    c.copy_of_long-last.ensures c.self.invariant.1

pub returns-in-Ok-clause-ok : goal.returns-in-Ok-clause-ok
returns-in-Ok-clause-ok c =
    let piece : LinePiece = record { common = 0; rest = c.args.line } in
    whole_pushed c.self.inside.pieces.items c.push.new.self.items c.args.line piece c.in-Ok.ensures.items refl refl
    ∙ ap (λ (ls : List Bytes). ls ++ c.args.line ∷ []) c.self.view_is
