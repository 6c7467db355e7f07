use Rattle.and_branch.proofs.OutlinedBranches.{outlined_again}
use Rattle.and_branch.proofs.branch.Branch.become_again.Goals as goal

pub returns : goal.returns
returns g c =
    outlined_again c.args.first.now.value c.args.outline.now c.requires.outline c.args.self.now c.go_back_by.new.self c.fill_by.new.self
    c.go_back_by.ensures c.in_ok-fill_by.ensures
