use Rattle.std.proofs.Common.{◌+◌, refl, ap, sym, ◌∙◌, subst, Ok}
use Rattle.and_pending.specs.Pending.{goals_of}
use Rattle.and_branch_laws.specs.Goals.{IsNodeOf}
use Rattle.and_branch_parts.specs.Branches.{Held}
use Rattle.and_branch_parts.specs.Next.{HasNextCall}
use Rattle.and_branch_parts.proofs.KeptOrigins.{reduced_back}
use Rattle.and_branch_parts.proofs.LoadedPrograms.{is_loaded}
use Rattle.and_branch_parts.proofs.NextReduced.{next_judged, next_dies}
use Rattle.and_branch.specs.Bodies.{with_next}
use Rattle.and_branch.proofs.BodiesRun.{next_entered}
use Rattle.and_branch.proofs.branch.Branch.enter_goal.Goals as goal

pub take-requires-clause-goal : goal.take-requires-clause-goal
take-requires-clause-goal g c =
    let P = g.N.Naming.program in
    let says = c.skeleton_is_of_the_program.ensures in
    let loaded = is_loaded P c.args.loaded.now c.requires.program says.skeleton says.own_variables says.few in
    let has = subst (λ (b : Held). HasNextCall P (with_next c.args.goal b) c.args.clause.0) (sym c.self.view_is) c.requires.next in
    next_judged P loaded _ c.args.clause.0 c.args.goal (goals_of c.self.inside.goals.right) has refl

pub take-requires-clause-call : goal.take-requires-clause-call
take-requires-clause-call g c =
    subst (λ (b : Held). IsNodeOf g.N.Naming.program b.row c.args.goal c.args.call.0) (sym c.self.view_is) c.requires.call

pub returns-in-Solved-clause-entered : goal.returns-in-Solved-clause-entered
returns-in-Solved-clause-entered g c = λ _.
    let P = g.N.Naming.program in
    let says = c.skeleton_is_of_the_program.ensures in
    let loaded = is_loaded P c.args.loaded.now c.requires.program says.skeleton says.own_variables says.few in
    let has = subst (λ (b : Held). HasNextCall P (with_next c.args.goal b) c.args.clause.0) (sym c.self.view_is) c.requires.next in
    next_entered P loaded (with_next c.args.goal c.args.self.now) _ _ (ap (λ (b : Held). with_next c.args.goal b) c.self.view_is)
    c.args.clause.0 c.args.goal (goals_of c.self.inside.goals.right) has refl
    (record { key = refl; limit = refl }) c.in_ok-push_reduction.ensures (ap (λ w. c.self.inside.used + w) c.requires.weight)
    (c.take.ensures.solved (c.in_ok-take.was ∙ ap Ok c.in-Solved.is)) refl refl refl (λ w h. h)

pub returns-in-NoSolution-clause-fails : goal.returns-in-NoSolution-clause-fails
returns-in-NoSolution-clause-fails g c = λ _.
    let P = g.N.Naming.program in
    let says = c.skeleton_is_of_the_program.ensures in
    let loaded = is_loaded P c.args.loaded.now c.requires.program says.skeleton says.own_variables says.few in
    let has = subst (λ (b : Held). HasNextCall P (with_next c.args.goal b) c.args.clause.0) (sym c.self.view_is) c.requires.next in (
      next_dies P loaded (with_next c.args.goal c.args.self.now) _ _ (ap (λ (b : Held). with_next c.args.goal b) c.self.view_is)
          c.args.clause.0 c.args.goal (goals_of c.self.inside.goals.right) has refl
          (record { key = refl; limit = refl }) c.in_ok-push_reduction.ensures (ap (λ w. c.self.inside.used + w) c.requires.weight)
          (c.take.ensures.unsolved (c.in_ok-take.was ∙ ap Ok c.in-NoSolution.is)) refl,
      refl,
    )

pub returns-in-Solved-clause-back : goal.returns-in-Solved-clause-back
returns-in-Solved-clause-back g c =
    reduced_back _ c.args.self.now c.self.view_is _ _ c.in_ok-push_reduction.ensures c.in_ok-take.ensures.noted

pub returns-in-NoSolution-clause-back : goal.returns-in-NoSolution-clause-back
returns-in-NoSolution-clause-back g c =
    reduced_back _ c.args.self.now c.self.view_is _ _ c.in_ok-push_reduction.ensures c.in_ok-take.ensures.noted
