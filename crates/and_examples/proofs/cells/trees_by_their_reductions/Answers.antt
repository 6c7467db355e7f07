use Rattle.and_examples.proofs.WrittenTreeExamples
use Rattle.and_examples.proofs.cells.trees_by_their_reductions.Goals as goal

pub returns-clause-decided : goal.returns-clause-decided
returns-clause-decided c = WrittenTreeExamples.decided

pub returns-clause-nothing_decided : goal.returns-clause-nothing_decided
returns-clause-nothing_decided c = WrittenTreeExamples.nothing_decided

pub returns-clause-cut_at_goal : goal.returns-clause-cut_at_goal
returns-clause-cut_at_goal c = WrittenTreeExamples.cut_at_goal

pub returns-clause-cut_alone : goal.returns-clause-cut_alone
returns-clause-cut_alone c = WrittenTreeExamples.cut_alone
