use Rattle.and_examples.proofs.Waiting
use Rattle.and_examples.proofs.late_comparison.Goals as goal

pub returns-clause-closes : goal.returns-clause-closes
returns-clause-closes c = Waiting.late_closes

pub returns-clause-alone : goal.returns-clause-alone
returns-clause-alone c = Waiting.late_alone

pub returns-clause-ends : goal.returns-clause-ends
returns-clause-ends c = Waiting.late_ends

pub returns-clause-refuted : goal.returns-clause-refuted
returns-clause-refuted c = Waiting.refuted_closes

pub returns-clause-no_end : goal.returns-clause-no_end
returns-clause-no_end c = Waiting.not_below_no_end
