use Rattle.and_lifting.proofs.NestedTrial
use Rattle.and_lifting.proofs.trials.nested_disjunctions.Goals as goal

pub returns-clause-ends : goal.returns-clause-ends
returns-clause-ends c = NestedTrial.ends
