use Rattle.std.proofs.Common.{◌≤◌, [], sym, subst, arith}
use Rattle.and_overlay.specs.Overlaid.{IsOver}
use Rattle.and_overlay.specs.Settings.{own_in}
use Rattle.and_overlay.proofs.Setting.{over_begun}
use Rattle.and_overlay.proofs.overlay.Overlay.begin_again.Goals as goal

pub invariant_of-self : goal.invariant_of-self
invariant_of-self g c =
    let now = c.args.self.now in
    let s = g.C.Cells.seen now.cells.now in
    let room = c.requires.room in
    let places = c.forget_settings.ensures.room in
    let looked = c.forget_settings.ensures.looked in
    let begun = over_begun g.C.Cells.program s c.args.frame now.scratch.now.looked.listed (g.met.C.Cells.coherent now.cells.now)
    now.kept.below now.kept.looked_low in record {
      words = now.words;
      few = c.requires.few;
      room = (omega arith, subst (λ l. now.below ≤ l.room) (sym looked) now.room.1);
      kept = subst (λ items. IsOver g.C.Cells.program s c.args.frame (own_in g.C.Cells.seen items)
          c.forget_settings.new.self.looked.listed) (sym c.forget_settings.ensures.settings)
          (subst (λ l. IsOver g.C.Cells.program s c.args.frame [] l.listed) (sym looked) begun);
    }
