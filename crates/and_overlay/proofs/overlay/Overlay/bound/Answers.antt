use Rattle.std.proofs.Common.{◌<◌, subst}
use Rattle.std.specs.Prelude.{Contains}
use Rattle.and_overlay.proofs.Kept.{kept_noted}
use Rattle.and_overlay.proofs.overlay.Overlay.bound.Goals as goal

pub returns-clause-noted : goal.returns-clause-noted
returns-clause-noted g c = λ place has low.
    let now = c.args.self.now in
    kept_noted g.C.Cells.program (g.C.Cells.seen now.cells.now) now.frame g.C.Cells.seen now.scratch.now.settings.items
    now.scratch.now.looked.listed now.kept place
    (subst (λ places. Contains places place) c.bound.ensures has) (subst (λ n. place < n) now.words low)
