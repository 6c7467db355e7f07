use Rattle.and_model.proofs.code.codes_are_in_total_order.Goals as goal
use Rattle.and_model.proofs.CodeOrder.{precedes_irreflexive, precedes_asymmetric, precedes_total, precedes_transitive}

pub returns-clause-irreflexive : goal.returns-clause-irreflexive
returns-clause-irreflexive c = precedes_irreflexive

pub returns-clause-asymmetric : goal.returns-clause-asymmetric
returns-clause-asymmetric c = precedes_asymmetric

pub returns-clause-total : goal.returns-clause-total
returns-clause-total c = precedes_total

pub returns-clause-transitive : goal.returns-clause-transitive
returns-clause-transitive c = precedes_transitive
