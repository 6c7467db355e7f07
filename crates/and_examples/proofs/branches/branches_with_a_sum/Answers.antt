use Rattle.and_examples.proofs.BranchExamples
use Rattle.and_examples.proofs.branches.branches_with_a_sum.Goals as goal

pub returns-clause-ran_stands : goal.returns-clause-ran_stands
returns-clause-ran_stands c = BranchExamples.ran_stands

pub returns-clause-waiting_stands : goal.returns-clause-waiting_stands
returns-clause-waiting_stands c = BranchExamples.waiting_stands
