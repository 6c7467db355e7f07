use Rattle.std.proofs.Common.{[], ◌∷◌, ◌++◌, ap, ◌∙◌, subst, OnOk}
use Rattle.and_model.specs.Lines.{Bytes}
use Rattle.and_syntax.specs.Written.{variable}
use Rattle.and_grammar.specs.Views.{Adds}
use Rattle.and_grammar.proofs.copying.put_written_state.Goals as goal

pub returns : goal.returns
returns c =
    subst (λ (x : Bytes). OnOk c.put_variable.result (Adds c.args.out.now c.put_variable.new.out (variable x ∷ [])))
    (c.as_slice.ensures ∙ c.in_ok-extend_from_slice.ensures.ok
    ∙ ap (λ (xs : Bytes). xs ++ c.as_bytes.result.now) (c.in_ok-push.ensures.ok ∙ ap (λ (xs : Bytes). xs ++ 255 ∷ []) c.new-name.ensures.items)
    ∙ ap (λ (ys : Bytes). 255 ∷ ys) (c.as_bytes.ensures.value ∙ c.format.ensures.text))
    c.put_variable.ensures
