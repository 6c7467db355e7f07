use Rattle.std.proofs.Common.{◌∙◌, ap}
use Rattle.and_store.proofs.Telling.{look_so}
use Rattle.and_store.proofs.store.Store.look.Goals as goal

pub returns-clause-looks : goal.returns-clause-looks
returns-clause-looks g c =
    look_so g.N.Naming.program c.args.cell _ c.look_at_cell-found.result _ _ c.reference.result _
    (ap (λ z. z.store.about) c.pass.view_is ∙ ap (λ z. z.about) c.requires.store) (ap (λ z. z.pass) c.pass.view_is)
    c.look_at_cell-found.ensures.told.0 c.reference.ensures
