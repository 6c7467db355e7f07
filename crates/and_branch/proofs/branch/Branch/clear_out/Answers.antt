use Rattle.std.proofs.Common.{refl}
use Rattle.and_branch_parts.proofs.WatchedGoals.{goals_forgotten, left_forgotten}
use Rattle.and_branch.proofs.branch.Branch.clear_out.Goals as goal

pub returns-then-are_worn-clause-moved : goal.returns-then-are_worn-clause-moved
returns-then-are_worn-clause-moved g c =
    goals_forgotten _ c.args.self.now c.self.view_is c.self.inside.goals refl refl refl c.forget_watches.new.self c.forget_watches.ensures

pub returns-then-are_worn-clause-left : goal.returns-then-are_worn-clause-left
returns-then-are_worn-clause-left g c =
    left_forgotten _ c.args.self.now c.self.view_is c.self.inside.goals refl refl refl c.forget_watches.new.self c.forget_watches.ensures
