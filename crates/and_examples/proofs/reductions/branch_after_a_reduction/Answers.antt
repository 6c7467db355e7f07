use Rattle.and_examples.proofs.BasesExamples
use Rattle.and_examples.proofs.reductions.branch_after_a_reduction.Goals as goal

pub returns-clause-made : goal.returns-clause-made
returns-clause-made c = BasesExamples.made

pub returns-clause-live : goal.returns-clause-live
returns-clause-live c = BasesExamples.live

pub returns-clause-lost_goal : goal.returns-clause-lost_goal
returns-clause-lost_goal c = BasesExamples.lost_goal

pub returns-clause-at_base : goal.returns-clause-at_base
returns-clause-at_base c = BasesExamples.at_base
