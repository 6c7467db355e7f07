use Rattle.std.proofs.Common.{refl}
use Rattle.and_branch_parts.proofs.WatchedGoals.{next_dropped}
use Rattle.and_branch.proofs.branch.Branch.drop_next.Goals as goal

pub returns-clause-dropped : goal.returns-clause-dropped
returns-clause-dropped g c =
    next_dropped _ c.args.self.now c.self.view_is c.self.inside.goals refl refl refl c.pop-dropped.result c.pop-dropped.new.self
    c.pop-dropped.ensures.none c.pop-dropped.ensures.some
