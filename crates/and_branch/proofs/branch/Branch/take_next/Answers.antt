use Rattle.std.proofs.Common.{◌∷◌, List, refl, ap, sym, ◌∙◌}
use Rattle.and_model.specs.declared.goal.Goal.{Goal}
use Rattle.and_pending.specs.Pending.{goals_of}
use Rattle.and_branch_parts.specs.Branches.{Held}
use Rattle.and_branch_parts.proofs.PassedGoals.{first_goal, popped_right}
use Rattle.and_branch_parts.proofs.WatchedGoals.{next_dropped}
use Rattle.and_branch.proofs.branch.Branch.take_next.Goals as goal

pub returns-clause-next : goal.returns-clause-next
returns-clause-next g c =
    let (w, rest, next, same, popped) = c.in-Some.ensures.some in
    sym (ap (λ (b : Held). b.right) c.self.view_is) ∙ first_goal c.self.inside.goals.right rest w c.in-Some.goal next same
    ∙ ap (λ (l : List Goal). c.in-Some.goal ∷ l) (sym (popped_right c.self.inside.goals c.pop.new.self w rest next popped))

pub returns-clause-dropped : goal.returns-clause-dropped
returns-clause-dropped g c =
    let (w, rest, next, same, popped) = c.in-Some.ensures.some in
    next_dropped _ c.args.self.now c.self.view_is c.self.inside.goals refl refl refl c.pop.result c.pop.new.self
    c.pop.ensures.none c.pop.ensures.some c.in-Some.goal (goals_of c.pop.new.self.right)
    (sym (ap (λ (b : Held). b.right) c.self.view_is) ∙ first_goal c.self.inside.goals.right rest w c.in-Some.goal next same
    ∙ ap (λ (l : List Goal). c.in-Some.goal ∷ l) (sym (popped_right c.self.inside.goals c.pop.new.self w rest next popped)))
