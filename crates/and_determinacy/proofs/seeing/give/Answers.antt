use Rattle.std.proofs.Common.{ℕ, ◌≢◌, ◌≡◌, ◌∷◌, [], List, Ok, true, refl, ap, subst, rules}
use Rattle.std.specs.Prelude.{All}
use Rattle.std.proofs.lemmas.List.Elements.{All-contains}
use Rattle.and_determinacy.specs.Seeing.{HoldNone}
use Rattle.and_determinacy.specs.declared.seeing.Sight.TheVariants.{Fits}
use Rattle.and_determinacy.proofs.SureRefs.{cell_joined}
use Rattle.and_determinacy.proofs.seeing.give.Goals as goal

pub returns-clause-meets : goal.returns-clause-meets
returns-clause-meets g c = λ e given.
    let P = g.N.Naming.program in
    let row = c.args.cells.now in
    let held = c.args.held.now.items in
    let has = c.holds_none.new.held.items in
    let cell = c.args.cell in
    let fit : c.fits_if.result ≡ Fits = search rules in
    let none : c.in_ok-none.none ≡ true = c.fits_if.ensures.fits fit in
    let new : c.is_another-another.result ≡ true = search rules in
    let others = subst (All (λ (other : ℕ). other ≢ cell)) c.deref.ensures.value (c.is_another-another.ensures.another new) in
    cell_joined P row held has given cell c.args.other c.requires.cell (c.is_another-another.ensures.free new)
    (λ i. All-contains (λ (other : ℕ). other ≢ cell) held cell others i refl)
    (subst (λ (cs : List ℕ). HoldNone P row cs has (c.args.other ∷ [])) c.in_ok-push.ensures.items (c.in_ok-none.ensures (ap (λ b. Ok b) none)))
