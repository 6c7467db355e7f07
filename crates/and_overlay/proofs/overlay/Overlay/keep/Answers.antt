use Rattle.std.proofs.Common.{◌≡◌, ◌≤◌, List, ◌∷◌, sym, ap, subst, ◌∙◌, arith, ◌<◌}
use Rattle.and_model.specs.Store.{Known}
use Rattle.and_cells.specs.Seen.{Sets}
use Rattle.and_overlay.specs.Overlaid.{IsOver, seen_over}
use Rattle.and_overlay.specs.Settings.{own_in}
use Rattle.and_overlay.proofs.Kept.{not_kept_back, kept_push}
use Rattle.and_overlay.proofs.Knowing.{settings_of}
use Rattle.and_overlay.proofs.Setting.{noted_place, unknown_own, over_new, sets_new}
use Rattle.and_overlay.proofs.overlay.Overlay.keep.Goals as goal
use Rattle.and_overlay.proofs.overlay.Overlay.keep.Goals.{After-set}

pub set-requires-clause-apart : goal.set-requires-clause-apart
set-requires-clause-apart g c =
    let now = c.args.self.now in
    let own = own_in g.C.Cells.seen now.scratch.now.settings.items in
    let s = g.C.Cells.seen now.cells.now in
    not_kept_back g.C.Cells.seen now.scratch.now.settings.items c.args.place
    (unknown_own s now.frame own now.scratch.now.looked.listed (settings_of g.C.Cells.program s now.frame own
    now.scratch.now.looked.listed now.kept (g.met.C.Cells.coherent now.cells.now)) c.args.place c.requires.unknown)

-- the settings with the newest one
settings_new : (g : _) (c : After-set g) → own_in g.C.Cells.seen c.set.new.self.settings.items
    ≡ record { place = c.args.place; value = c.args.value; before = (g.C.Cells.seen c.args.self.now.cells.now).known } ∷ own_in
    g.C.Cells.seen c.args.self.now.scratch.now.settings.items
settings_new g c =
    kept_push g.C.Cells.seen c.args.self.now.scratch.now.settings.items c.set.new.self.settings.items _ c.set.ensures.settings
    ∙ ap (λ (before : List Known). record { place = c.args.place; value = c.args.value; before = before } ∷ own_in g.C.Cells.seen
    c.args.self.now.scratch.now.settings.items) (ap (λ cells. (g.C.Cells.seen cells).known) c.of.ensures)

pub invariant_of-self : goal.invariant_of-self
invariant_of-self g c =
    let now = c.args.self.now in
    let s = g.C.Cells.seen now.cells.now in
    let own = own_in g.C.Cells.seen now.scratch.now.settings.items in
    let room = now.room in
    let same = c.set.ensures.room in
    let new = over_new g.C.Cells.program s now.frame own now.scratch.now.looked.listed c.args.place c.args.value now.kept
    (g.met.C.Cells.coherent now.cells.now)
    c.requires.unknown c.requires.set c.requires.place c.requires.fits c.requires.written
    (λ low. noted_place now.scratch.now.looked.listed c.args.place (c.requires.noted (subst (λ n. c.args.place < n) (sym now.words) low)))
    in record {
      words = now.words;
      few = now.few;
      room = (omega arith, subst (λ l. now.below ≤ l.room) (sym c.set.ensures.looked) room.1);
      kept = subst (λ l. IsOver g.C.Cells.program s now.frame (own_in g.C.Cells.seen c.set.new.self.settings.items) l.listed)
          (sym c.set.ensures.looked)
          (subst (λ o. IsOver g.C.Cells.program s now.frame o now.scratch.now.looked.listed) (sym (settings_new g c)) new);
    }

pub returns-clause-sets : goal.returns-clause-sets
returns-clause-sets g c =
    let now = c.args.self.now in
    let s = g.C.Cells.seen now.cells.now in
    let own = own_in g.C.Cells.seen now.scratch.now.settings.items in
    let ov = seen_over s now.frame own now.scratch.now.looked.listed in
    let sets = sets_new g.C.Cells.program s now.frame own now.scratch.now.looked.listed c.args.place c.args.value now.kept
    (g.met.C.Cells.coherent now.cells.now)
    c.requires.unknown c.requires.set c.requires.place c.requires.free in
    subst (λ l. Sets c.args.place c.args.value ov (seen_over s now.frame (own_in g.C.Cells.seen c.set.new.self.settings.items) l.listed))
    (sym c.set.ensures.looked)
    (subst (λ o. Sets c.args.place c.args.value ov (seen_over s now.frame o now.scratch.now.looked.listed))
    (sym (settings_new g c.before)) sets)
