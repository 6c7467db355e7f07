use Rattle.and_examples.proofs.ModesExamples
use Rattle.and_examples.proofs.modes.increment_of_a_variable.Goals as goal

pub returns-clause-lowest_is_well_moded : goal.returns-clause-lowest_is_well_moded
returns-clause-lowest_is_well_moded c = ModesExamples.lowest_is_well_moded

pub returns-clause-higher_is_not : goal.returns-clause-higher_is_not
returns-clause-higher_is_not c = ModesExamples.higher_is_not

pub returns-clause-x_waits_first : goal.returns-clause-x_waits_first
returns-clause-x_waits_first c = ModesExamples.x_waits_first

pub returns-clause-z_is_earlier : goal.returns-clause-z_is_earlier
returns-clause-z_is_earlier c = ModesExamples.z_is_earlier

pub returns-clause-lowest_greatest : goal.returns-clause-lowest_greatest
returns-clause-lowest_greatest c = ModesExamples.lowest_greatest
