use Rattle.and_examples.proofs.BranchExamples
use Rattle.and_examples.proofs.branches.branches_of_a_split.Goals as goal

pub returns-clause-failed_stands : goal.returns-clause-failed_stands
returns-clause-failed_stands c = BranchExamples.failed_stands

pub returns-clause-split_stands : goal.returns-clause-split_stands
returns-clause-split_stands c = BranchExamples.split_stands

pub returns-clause-other_key : goal.returns-clause-other_key
returns-clause-other_key c = BranchExamples.other_key
