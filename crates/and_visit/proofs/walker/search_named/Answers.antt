use Rattle.std.proofs.Common.{ℕ, List, reverse, refl, ap, sym, subst, [], ◌∙◌}
use Rattle.and_model.specs.Reductions.{Reduction}
use Rattle.and_cells.specs.Ranges.{NamedProgram}
use Rattle.and_code.specs.Telling.{IsTold}
use Rattle.and_visit.specs.declared.stack.Level.{Level}
use Rattle.and_visit.proofs.Going.{ready_begun, searched_none, searched_alone}
use Rattle.and_visit.proofs.walker.search_named.Goals as goal

pub finish-requires-clause-ready : goal.finish-requires-clause-ready
finish-requires-clause-ready g c κs within =
    let P : NamedProgram = g.N.Naming.program in
    let b = c.in-Ready.branch in
    let told = c.begun-told.result in
    let plain = c.in-Ready.ensures.plain b refl in
    ready_begun P c.args.limit (g.V.Visitor.has_seen c.args.visitor) (reverse c.new.result.items) b told
    (ap (λ (ls : List (Level g.row.N.Denot)). reverse ls) c.new.ensures.items)
    c.requires.begins (c.in-Ready.ensures.ready b refl) plain.1
    (subst (λ (key : List ℕ). IsTold P.program b.reductions told key) (sym plain.0)
    (subst (λ (rs : List Reduction). IsTold P.program rs told []) (sym plain.2)
    (subst (λ (R : NamedProgram). IsTold R.program [] told []) (sym c.requires.program) c.begun-told.ensures)))

pub returns-then-is_done-clause-searched : goal.returns-then-is_done-clause-searched
returns-then-is_done-clause-searched g c =
    let v = c.args.visitor in
    let cut = c.in-TooHeavy.cut in
    searched_none g.N.Naming.program c.args.limit (g.V.Visitor.has_seen v) (g.V.Visitor.has_enough v) cut c.requires.begins
    (c.in-TooHeavy.ensures.heavy cut refl) (sym c.is_done.ensures ∙ c.if-is_done.true)

pub returns-in_ok-see_cut-in-TooHeavy-clause-searched : goal.returns-in_ok-see_cut-in-TooHeavy-clause-searched
returns-in_ok-see_cut-in-TooHeavy-clause-searched g c =
    let n = c.see_cut.new.self in
    let cut = c.in-TooHeavy.cut in
    searched_alone g.N.Naming.program c.args.limit (g.V.Visitor.has_seen c.args.visitor) (g.V.Visitor.has_seen n)
    (g.V.Visitor.has_enough n) cut c.requires.begins (c.in-TooHeavy.ensures.heavy cut refl) (c.in-TooHeavy.ensures.cut cut refl)
    c.in_ok-see_cut-in-TooHeavy.ensures.told
