use Rattle.and_overlay.specs.Settings.{own_in}
use Rattle.and_overlay.proofs.Kept.{has_kept}
use Rattle.and_overlay.proofs.Knowing.{settings_of, has_set}
use Rattle.and_overlay.proofs.Stepping.{finds_own}
use Rattle.and_overlay.proofs.overlay.OverlayCells.look.Goals as goal

pub returns-in-Some-clause-found : goal.returns-in-Some-clause-found
returns-in-Some-clause-found g c = λ set.
    let now = c.args.self.now in
    let (setting, among, place, value) = c.in-Some.ensures.some in
    finds_own g.C.Cells.program now.frame (own_in g.C.Cells.seen now.scratch.now.settings.items) (g.C.Cells.seen now.cells.now)
    now.scratch.now.looked.listed c.args.cell c.in-Some.value
    now.kept (g.met.C.Cells.coherent now.cells.now) (has_kept g.C.Cells.seen now.scratch.now.settings.items c.args.cell c.in-Some.value
    setting among place value)

pub returns-in-Some-clause-free : goal.returns-in-Some-clause-free
returns-in-Some-clause-free g c = λ free.
    let now = c.args.self.now in
    let own = own_in g.C.Cells.seen now.scratch.now.settings.items in
    let s = g.C.Cells.seen now.cells.now in
    let (setting, among, place, value) = c.in-Some.ensures.some in
    absurd (has_set s now.frame own now.scratch.now.looked.listed (settings_of g.C.Cells.program s now.frame own
    now.scratch.now.looked.listed now.kept (g.met.C.Cells.coherent now.cells.now)) c.args.cell c.in-Some.value
    (has_kept g.C.Cells.seen now.scratch.now.settings.items c.args.cell c.in-Some.value setting among place value) free)
