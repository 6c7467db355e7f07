use Rattle.std.proofs.Common.{ℕ, ◌≢◌, ◌≡◌, ◌∷◌, [], List, true, refl, sym, subst, rules}
use Rattle.std.specs.Prelude.{All}
use Rattle.std.proofs.lemmas.List.Elements.{All-contains}
use Rattle.and_model.specs.declared.reference.Ref.TheVariants.{Cell}
use Rattle.and_determinacy.specs.Seeing.{HoldNone}
use Rattle.and_determinacy.proofs.SureRefs.{cell_holds}
use Rattle.and_determinacy.proofs.seeing.hold.Goals as goal

pub returns-in_ok-push : goal.returns-in_ok-push
returns-in_ok-push g c = λ e.
    let P = g.N.Naming.program in
    let row = c.args.cells.now in
    let held = c.args.held.now.items in
    let cell = c.args.cell in
    let new : c.is_another-another.result ≡ true = search rules in
    let others = subst (All (λ (other : ℕ). other ≢ cell)) c.deref.ensures.value (c.is_another-another.ensures.another new) in
    subst (λ (has : List ℕ). HoldNone P row held has (Cell cell ∷ [])) (sym c.in_ok-push.ensures.items)
    (cell_holds P row held cell c.requires (c.is_another-another.ensures.free new)
    (λ i. All-contains (λ (other : ℕ). other ≢ cell) held cell others i refl))
