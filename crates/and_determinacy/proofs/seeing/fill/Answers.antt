use Rattle.std.proofs.Common.{ℕ, ◌≡◌, ◌≢◌, Ok, true, List, refl, ap, subst, rules}
use Rattle.std.specs.Prelude.{All}
use Rattle.std.proofs.lemmas.List.Elements.{All-contains}
use Rattle.and_program.specs.Loaded.{arguments_at}
use Rattle.and_determinacy.specs.Seeing.{AreLacking}
use Rattle.and_determinacy.specs.declared.seeing.Sight.TheVariants.{Fits}
use Rattle.and_determinacy.proofs.SureParts.{filled}
use Rattle.and_determinacy.proofs.seeing.fill.Goals as goal

pub returns-clause-meets : goal.returns-clause-meets
returns-clause-meets g c = λ e.
    let P = g.N.Naming.program in
    let row = c.args.cells.now in
    let held = c.args.held.now.items in
    let given = c.args.given.now.items in
    let cell = c.args.cell in
    let fit : c.fits_if.result ≡ Fits = search rules in
    let lack : c.in_ok-lack.lack ≡ true = c.fits_if.ensures.fits fit in
    let new : c.is_another-another.result ≡ true = search rules in
    let others = c.is_another-another.ensures.another new in
    let are = subst (λ (cs : List ℕ). AreLacking P row cs c.parts_lack.new.held.items given c.parts_lack.new.given.items
    (arguments_at P.skeleton c.args.asked.0)) c.in_ok-push.ensures.items (c.in_ok-lack.ensures (ap (λ b. Ok b) lack)) in
    filled P c.requires.falls row held c.parts_lack.new.held.items given c.parts_lack.new.given.items cell c.args.asked.0
    c.requires.solid c.requires.in_range (c.is_another-another.ensures.free new)
    (λ i. All-contains (λ (other : ℕ). other ≢ cell) held cell (subst (All (λ (other : ℕ). other ≢ cell)) c.deref.ensures.value others) i refl)
    are
