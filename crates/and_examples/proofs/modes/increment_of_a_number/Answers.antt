use Rattle.and_examples.proofs.ModesExamples
use Rattle.and_examples.proofs.modes.increment_of_a_number.Goals as goal

pub returns-clause-safe_is_well_moded : goal.returns-clause-safe_is_well_moded
returns-clause-safe_is_well_moded c = ModesExamples.safe_is_well_moded

pub returns-clause-safe_greatest : goal.returns-clause-safe_greatest
returns-clause-safe_greatest c = ModesExamples.safe_greatest

pub returns-clause-safe_is_safe : goal.returns-clause-safe_is_safe
returns-clause-safe_is_safe c = ModesExamples.safe_is_safe
