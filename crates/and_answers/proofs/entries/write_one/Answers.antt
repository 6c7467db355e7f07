use Rattle.std.proofs.Common.{[], ◌∷◌, ◌++◌, ap, ◌∙◌}
use Rattle.and_model.specs.Lines.{Bytes}
use Rattle.and_answers.proofs.entries.write_one.Goals as goal

pub write-requires : goal.write-requires
write-requires c = c.requires.within

pub returns : goal.returns
returns c =
    c.in_ok-append.ensures ∙ ap (λ (bytes : Bytes). bytes ++ 10 ∷ []) c.in_ok-write.ensures
    ∙ ap (λ (line : Bytes). c.args.text.now ++ line ++ 10 ∷ []) c.requires.line
