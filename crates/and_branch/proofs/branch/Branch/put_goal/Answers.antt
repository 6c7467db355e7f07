use Rattle.std.proofs.Common.{refl, ◌∷◌, []}
use Rattle.and_branch.proofs.BodiesRun.{all_put}
use Rattle.and_branch.proofs.branch.Branch.put_goal.Goals as goal

pub returns-clause-put : goal.returns-clause-put
returns-clause-put g c =
    all_put (c.args.goal ∷ []) _ c.args.self.now c.self.view_is c.self.inside.goals c.push.new.self (refl, refl, refl) c.push.result
    c.push.ensures
