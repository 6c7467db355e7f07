use Rattle.std.proofs.Common.{refl}
use Rattle.std.proofs.lemmas.Result.{on_ok_weaker}
use Rattle.and_branch_parts.proofs.WatchedGoals.{next_there, next_watched}
use Rattle.and_branch.proofs.branch.Branch.watch_goal.Goals as goal

pub watch-requires : goal.watch-requires
watch-requires g c = next_there _ c.args.self.now c.self.view_is c.self.inside.goals refl refl refl c.args.goal c.requires.next

pub returns-clause-watches : goal.returns-clause-watches
returns-clause-watches g c =
    on_ok_weaker c.watch.result
    (λ made. next_watched _ c.args.self.now c.self.view_is c.self.inside.goals refl refl refl g.N.Naming.program c.args.goal c.requires.next.0
    c.requires.next.1 c.args.cells.now c.requires.asleep c.watch.new.self made)
    c.watch.ensures
