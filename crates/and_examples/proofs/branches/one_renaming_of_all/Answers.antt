use Rattle.and_examples.proofs.BranchExamples
use Rattle.and_examples.proofs.branches.one_renaming_of_all.Goals as goal

pub returns : goal.returns
returns c = BranchExamples.one_renaming
