use Rattle.std.proofs.Common.{◌∙◌, ◌∷◌, ◌++◌, [], List, ap, sym, subst}
use Rattle.and_cells.specs.Ranges.{NamedProgram}
use Rattle.and_code.specs.Telling.{IsTold}
use Rattle.and_answers.proofs.AlikeLemmas.{none_alike}
use Rattle.and_tasks.specs.Working.{IsAtWork}
use Rattle.and_tasks.specs.declared.stack.Task.{Task}
use Rattle.and_tasks.proofs.Ready.{ready_popped, left_popped}
use Rattle.and_teams.proofs.turning.turn.Goals as goal

pub advance-requires-clause-ready : goal.advance-requires-clause-ready
advance-requires-clause-ready g c κs within =
    let s = c.args.team.now in
    let rest : List (Task g.row.N.Denot) = c.pop.new.self.items in
    let told = c.untold-told.result in
    ready_popped g.N.Naming.program c.args.shared.now.tree.now s.pass s.found s.stack.items rest s.left c.in-Some-One.branch told c.requires.at_work
    (c.in-Some-One.ensures.items ∙ ap (λ (x : Task g.row.N.Denot). rest ++ x ∷ []) c.in-Some-One.field-0-is)
    (subst (λ (R : NamedProgram). IsTold R.program [] told []) (sym c.requires.program) c.untold-told.ensures.told) c.untold-told.ensures.length

pub next_child-requires-clause-at_work : goal.next_child-requires-clause-at_work
next_child-requires-clause-at_work g c κs within =
    let s = c.args.team.now in
    let rest : List (Task g.row.N.Denot) = c.pop.new.self.items in
    subst (λ (ts : List (Task g.row.N.Denot)). IsAtWork g.N.Naming.program c.args.shared.now.tree.now s.pass s.found ts s.left)
    (c.in-Some-Children.ensures.items ∙ ap (λ (x : Task g.row.N.Denot). rest ++ x ∷ []) c.in-Some-Children.field-0-is) c.requires.at_work

pub returns-in-Some-Left-clause-at_work : goal.returns-in-Some-Left-clause-at_work
returns-in-Some-Left-clause-at_work g c =
    let s = c.args.team.now in
    let rest : List (Task g.row.N.Denot) = c.pop.new.self.items in
    left_popped g.N.Naming.program c.args.shared.now.tree.now s.pass s.found s.stack.items rest s.left c.in-Some-Left.branch c.requires.at_work
    (c.in-Some-Left.ensures.items ∙ ap (λ (x : Task g.row.N.Denot). rest ++ x ∷ []) c.in-Some-Left.field-0-is)

pub returns-in-Some-Left-clause-has : goal.returns-in-Some-Left-clause-has
returns-in-Some-Left-clause-has g c = (returns-in-Some-Left-clause-at_work g c).works.has

pub invariant_of-team-in-Some-Left : goal.invariant_of-team-in-Some-Left
invariant_of-team-in-Some-Left g c =
    let s = c.args.team.now in
    record { number_is = s.number_is; left_shares = none_alike _ _ }
