use Rattle.std.proofs.Common.{[], ◌∷◌, reverse, refl}
use Rattle.and_cells.specs.Ranges.{NamedProgram}
use Rattle.and_traces.specs.Traces.{Report, failed}
use Rattle.and_visit.proofs.Going.{after_told, not_cut}
use Rattle.and_visit.proofs.Owing.{dead_trace}
use Rattle.and_visit.proofs.walker.Walker.fail.Goals as goal

pub returns-clause-after : goal.returns-clause-after
returns-clause-after g c =
    let P : NamedProgram = g.N.Naming.program in
    let s = c.args.self.now in
    let h = c.args.hand.now in
    let r : Report = record { depth = h.depth; event = failed } in
    after_told P s.limit (g.V.Visitor.has_seen s.visitor) (g.V.Visitor.has_seen c.see_failed.new.self) (reverse s.stack.items) h (r ∷ [])
    c.requires.ready (λ t branch limited. dead_trace P s.limit h.branch h.depth t branch limited (c.requires.dead t branch))
    (not_cut P s.limit r refl) c.in_ok-see_failed.ensures.told
