use Rattle.and_tasks.proofs.Sharing.{served_still}
use Rattle.and_tasks.proofs.team.Team.take_over.Goals as goal

pub put_branch-requires-clause-served : goal.put_branch-requires-clause-served
put_branch-requires-clause-served g c κs within =
    let s = c.loop-turn.self in
    let t = c.claim.new.self in
    served_still s.left t.left s.stack t.stack c.loop-turn.invariant.0.served c.claim.ensures.same.1 c.claim.ensures.same.2
