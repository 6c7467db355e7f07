use Rattle.and_branch.proofs.OutlinedBranches.{outlined_first}
use Rattle.and_branch.proofs.branch.Branch.become_first.Goals as goal

pub returns : goal.returns
returns g c =
    outlined_first c.args.first.now.value c.args.outline c.requires.outline c.args.self.now c.go_back_by.new.self c.put_into.new.branch
    c.go_back_by.ensures c.put_into.ensures
