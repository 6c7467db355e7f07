use Rattle.std.proofs.Common.{◌≡◌, ◌++◌, [], ◌∷◌, List, length, sym, ap, ◌∙◌, subst, arith}
use Rattle.std.specs.Prelude.{vec_len}
use Rattle.std.proofs.lemmas.Grind.{common_steps}
use Rattle.and_program.specs.Loaded.{program_of}
use Rattle.and_branch_laws.specs.Visits
use Rattle.and_branch_laws.specs.Visits.{into, onward}
use Rattle.and_code.specs.Visiting.{AreAtCalls, LeadsTo, visit_of, visited, visits_of, waiting}
use Rattle.and_code.specs.Written.{written}
use Rattle.and_code.proofs.Turns.{popped, waits_too, leads_behind, leads_under}
use Rattle.and_code.proofs.visiting.go_on.Goals as goal

first_waits : (c : goal.After-pop) → waiting c.pop.new.self.items c.pop.result ≡ visits_of c.args.visits.now.items
first_waits c =
    let old = c.args.visits.now.items in
    let new = c.pop.new.self.items in
    let long : vec_len c.args.visits.now ≡ length old = grind (arith, common_steps) in
    popped old new c.pop.result (vec_len c.args.visits.now) long c.pop.ensures.items c.pop.ensures.value

pub returns-in-None-rest-clause-calls : goal.returns-in-None-rest-clause-calls
returns-in-None-rest-clause-calls c =
    subst (AreAtCalls (program_of c.args.loaded.now)) (sym (first_waits c)) c.requires.calls

pub returns-in-None-rest-clause-leads : goal.returns-in-None-rest-clause-leads
returns-in-None-rest-clause-leads c =
    let vs = visits_of c.args.visits.now.items in
    let v = into (written c.args.reduction) in
    let w = onward (visit_of c.args.visit) in
    let new = waiting c.pop.new.self.items c.pop.result in
    leads_behind (program_of c.args.loaded.now) v w vs (visited c.entered.result) (visited c.behind-rest.result) new
    (c.entered.ensures.leads (w ∷ vs))
    (c.behind-rest.ensures.leads vs) (ap visited c.in-None.is)
    (first_waits c ∙ ap (λ (rest : List Visits.Visit). rest ++ vs) (sym (ap visited c.in-None-rest.is)))

pub returns-in-Some-rest-clause-calls : goal.returns-in-Some-rest-clause-calls
returns-in-Some-rest-clause-calls c =
    let P = program_of c.args.loaded.now in
    waits_too P (visit_of c.in-Some-rest.visit ∷ []) (visits_of c.args.visits.now.items)
    (subst (AreAtCalls P) (ap visited c.in-Some-rest.is) c.behind-rest.ensures.calls) c.requires.calls

pub returns-in_ok-keep-in-Some-clause-calls : goal.returns-in_ok-keep-in-Some-clause-calls
returns-in_ok-keep-in-Some-clause-calls c =
    let P = program_of c.args.loaded.now in
    waits_too P (visit_of c.in-Some.child ∷ []) (visits_of c.keep.new.visits.items)
    (subst (AreAtCalls P) (ap visited c.in-Some.is) c.entered.ensures.calls)
    (subst (AreAtCalls P) (sym c.in_ok-keep-in-Some.ensures)
    (waits_too P (visited c.behind-rest.result) (visits_of c.args.visits.now.items) c.behind-rest.ensures.calls c.requires.calls))

pub returns-in-Some-rest-clause-leads : goal.returns-in-Some-rest-clause-leads
returns-in-Some-rest-clause-leads c =
    let vs = visits_of c.args.visits.now.items in
    let v = into (written c.args.reduction) in
    let w = onward (visit_of c.args.visit) in
    leads_behind (program_of c.args.loaded.now) v w vs (visited c.entered.result) (visited c.behind-rest.result)
    (visit_of c.in-Some-rest.visit ∷ vs)
    (c.entered.ensures.leads (w ∷ vs))
    (c.behind-rest.ensures.leads vs) (ap visited c.in-None.is)
    (ap (λ (rest : List Visits.Visit). rest ++ vs) (sym (ap visited c.in-Some-rest.is)))

pub returns-in_ok-keep-in-Some-clause-leads : goal.returns-in_ok-keep-in-Some-clause-leads
returns-in_ok-keep-in-Some-clause-leads c =
    let vs = visits_of c.args.visits.now.items in
    let v = into (written c.args.reduction) in
    let w = onward (visit_of c.args.visit) in
    leads_under (program_of c.args.loaded.now) v w vs (visit_of c.in-Some.child) (visited c.behind-rest.result)
    (visits_of c.keep.new.visits.items)
    (subst (λ (child : List Visits.Visit). LeadsTo (program_of c.args.loaded.now) (v ∷ w ∷ vs) (child ++ w ∷ vs))
    (ap visited c.in-Some.is) (c.entered.ensures.leads (w ∷ vs)))
    (c.behind-rest.ensures.leads vs) c.in_ok-keep-in-Some.ensures
