use Rattle.and_examples.proofs.GuardExamples
use Rattle.and_examples.proofs.guards.guard_without_value.Goals as goal

pub returns-clause-differs_from_atom : goal.returns-clause-differs_from_atom
returns-clause-differs_from_atom c = GuardExamples.differs_from_atom

pub returns-clause-first_is_none : goal.returns-clause-first_is_none
returns-clause-first_is_none c = GuardExamples.not_above

pub returns-clause-second_is_none : goal.returns-clause-second_is_none
returns-clause-second_is_none c = GuardExamples.not_other

pub returns-clause-dead : goal.returns-clause-dead
returns-clause-dead c = GuardExamples.dead
