use Rattle.std.proofs.Common.{ℕ, List, [], ◌∷◌, reverse, refl, sym, subst}
use Rattle.and_model.specs.Listing.{Outcome}
use Rattle.and_cells.specs.Ranges.{NamedProgram}
use Rattle.and_code.specs.Telling.{IsTold}
use Rattle.and_code.specs.declared.telling.CodeSoFar.{CodeSoFar}
use Rattle.and_answers.specs.Kept.{outcome_with}
use Rattle.and_visit.proofs.EndsTold.{told_ends}
use Rattle.and_traces.specs.Traces.{Report, ended}
use Rattle.and_visit.proofs.Going.{after_told, not_cut}
use Rattle.and_visit.proofs.Owing.{end_trace}
use Rattle.and_visit.proofs.walker.Walker.end.Goals as goal

pub code_if-requires-clause-told : goal.code_if-requires-clause-told
code_if-requires-clause-told g c =
    let h = c.args.hand.now in
    subst (λ (t : CodeSoFar). IsTold g.N.Naming.program.program h.branch.reductions t h.branch.key) (sym c.replace-told.ensures.value)
    c.requires.ready.told

pub returns-clause-after : goal.returns-clause-after
returns-clause-after g c =
    let P : NamedProgram = g.N.Naming.program in
    let s = c.args.self.now in
    let h = c.args.hand.now in
    let cs : List ℕ = c.in_ok-coded.coded.named.value in
    let o : Outcome = outcome_with c.args.floundered c.in_ok-line.line in
    let r : Report = record { depth = h.depth; event = ended cs o } in
    after_told P s.limit (g.V.Visitor.has_seen s.visitor) (g.V.Visitor.has_seen c.see_end.new.self) (reverse s.stack.items) h (r ∷ [])
    c.requires.ready
    (λ t branch limited.
    let e = told_ends P h.branch c.args.floundered cs c.in_ok-line.line c.in_ok-coded.ensures.named c.in_ok-line.ensures c.requires.state t branch in
    end_trace P s.limit h.branch h.depth cs o t branch limited e.0 e.1)
    (not_cut P s.limit r refl) c.in_ok-see_end.ensures.told
