use Rattle.std.proofs.Common.{◌∙◌, ap, sym, subst, inl, inr, refl}
use Rattle.and_model.specs.Words.{word_of}
use Rattle.and_store.specs.Calls.{FillsWord}
use Rattle.and_store.specs.Sight.{About}
use Rattle.and_store.specs.Told.{mine_of}
use Rattle.and_store.proofs.Telling.{look_so, set_tells}
use Rattle.and_store.proofs.store.Store.fill.Goals as goal

pub returns-then-found-ne0-clause-fills : goal.returns-then-found-ne0-clause-fills
returns-then-found-ne0-clause-fills g c =
    let told = c.set_cell-found.ensures.told.0.1 c.if-found-ne0.true in
    inr (
      look_so g.N.Naming.program c.args.place _ c.set_cell-found.result _ _ c.reference.result _
          (ap (λ z. z.store.about) c.pass.view_is ∙ ap (λ z. z.about) c.requires.store) (ap (λ z. z.pass) c.pass.view_is) told c.reference.ensures,
      λ free. c.if-found-ne0.true (told.found_is ∙ ap word_of (sym (c.reference.ensures _ told.named (sym told.found_is)) ∙ free)),
    )

pub returns-clause-fills : goal.returns-clause-fills
returns-clause-fills g c =
    let told = c.set_cell-found.ensures.told.0.0 c.if-found-ne0.false in
    let P = g.N.Naming.program in
    let w = c.set_cell-found.new.seat.me.0 in
    subst (λ (a : About). FillsWord P a c.args.place c.args.half c.args.half c.args.pass.now.pass (mine_of w).pass) (ap (λ z. z.store.about) c.pass.view_is
    ∙ ap (λ z. z.about) c.requires.store)
    (subst (λ p. FillsWord P c.pass.inside.seat.me.0.about c.args.place c.args.half c.args.half p (mine_of w).pass) (ap (λ z. z.pass) c.pass.view_is)
    (inl (set_tells P c.args.place c.args.half _ _ told, refl)))
