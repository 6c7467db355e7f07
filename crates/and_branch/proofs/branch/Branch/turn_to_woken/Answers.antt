use Rattle.and_branch_parts.proofs.MovedBranches.{moved_nowhere}
use Rattle.and_branch.proofs.branch.Branch.turn_to_woken.Goals as goal

pub returns-in-Back-clause-moved : goal.returns-in-Back-clause-moved
returns-in-Back-clause-moved g c = moved_nowhere c.args.self.now
