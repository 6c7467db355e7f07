use Rattle.and_examples.proofs.KeptExamples
use Rattle.and_examples.proofs.cells.cells_after_a_reduction.Goals as goal

pub returns-clause-skeleton_is : goal.returns-clause-skeleton_is
returns-clause-skeleton_is c = KeptExamples.skeleton_is

pub returns-clause-kept : goal.returns-clause-kept
returns-clause-kept c = KeptExamples.kept

pub returns-clause-in_view : goal.returns-clause-in_view
returns-clause-in_view c = KeptExamples.in_view

pub returns-clause-says_more : goal.returns-clause-says_more
returns-clause-says_more c = KeptExamples.says_more

pub returns-clause-says_less : goal.returns-clause-says_less
returns-clause-says_less c = KeptExamples.says_less

pub returns-clause-out_of_order : goal.returns-clause-out_of_order
returns-clause-out_of_order c = KeptExamples.out_of_order

pub returns-clause-both_are : goal.returns-clause-both_are
returns-clause-both_are c = KeptExamples.both_are

pub returns-clause-one_is_none : goal.returns-clause-one_is_none
returns-clause-one_is_none c = KeptExamples.one_is_none
