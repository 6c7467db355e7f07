use Rattle.std.proofs.Common.{◌↔◌, ◌∙◌, ap, sym, subst}
use Rattle.and_cells.specs.Seen.{Knows}
use Rattle.and_overlay.specs.Overlaid.{Own, seen_over}
use Rattle.and_overlay.specs.Settings.{own_in}
use Rattle.std.specs.Prelude.{List}
use Rattle.and_overlay.proofs.Setting.{begun_knows}
use Rattle.and_overlay.proofs.overlay.Overlay.over.Goals as goal

pub returns-clause-knows : goal.returns-clause-knows
returns-clause-knows g c = λ place r.
    let s = g.C.Cells.seen c.args.cells.now in
    let none = ap (own_in g.C.Cells.seen) (c.forget_looks.ensures.settings ∙ c.forget_settings.ensures.settings) in
    subst (λ (own : List Own). Knows s place r ↔ Knows (seen_over s c.args.frame own c.forget_looks.new.self.looked.listed) place r) (sym none)
    (begun_knows s c.args.frame c.forget_looks.new.self.looked.listed place r)
