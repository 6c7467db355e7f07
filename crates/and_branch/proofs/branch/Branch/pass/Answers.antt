use Rattle.std.proofs.Common.{refl, ◌∙◌, ap}
use Rattle.and_branch_parts.specs.Branches.{Held}
use Rattle.and_branch_parts.proofs.PassedGoals.{some_goal, passed_moved, passed_goals}
use Rattle.and_branch.proofs.branch.Branch.pass.Goals as goal

pub pass-requires : goal.pass-requires
pass-requires g c =
    let (h, rest, next) = c.requires.next in
    some_goal c.self.inside.goals.right h rest (ap (λ (b : Held). b.right) c.self.view_is ∙ next)

pub returns-clause-moved : goal.returns-clause-moved
returns-clause-moved g c =
    passed_moved _ c.args.self.now c.self.view_is c.self.inside.goals c.pass.new.self (refl, refl, refl) c.requires.next c.pass.result
    c.pass.ensures

pub returns-clause-passed : goal.returns-clause-passed
returns-clause-passed g c =
    passed_goals _ c.args.self.now c.self.view_is c.self.inside.goals c.pass.new.self (refl, refl, refl) c.requires.next c.pass.result
    c.pass.ensures
