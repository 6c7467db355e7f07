use Rattle.std.proofs.lemmas.Result.{on_ok_weaker}
use Rattle.and_branch_parts.proofs.LookedGoals.{moved_steps}
use Rattle.and_branch.proofs.branch.Branch.come_to_next.Goals as goal

pub returns-in-Back-clause-steps : goal.returns-in-Back-clause-steps
returns-in-Back-clause-steps g c = on_ok_weaker c.back_up.result (moved_steps g.N.Naming.program c.args.self.now c.back_up.new.self) c.back_up.ensures.moved
