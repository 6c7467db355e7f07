use Rattle.std.specs.Prelude.{refl}
use Rattle.and_examples.proofs.modes.levels_that_items_raise.Goals as goal

pub returns-clause-equal_to_variable : goal.returns-clause-equal_to_variable
returns-clause-equal_to_variable c = (refl, refl, refl)

pub returns-clause-equal_to_number : goal.returns-clause-equal_to_number
returns-clause-equal_to_number c = (refl, refl)

pub returns-clause-within_structure : goal.returns-clause-within_structure
returns-clause-within_structure c = (refl, refl, refl)

pub returns-clause-from_structure : goal.returns-clause-from_structure
returns-clause-from_structure c = (refl, refl, refl)

pub returns-clause-by_call : goal.returns-clause-by_call
returns-clause-by_call c = (refl, refl)

pub returns-clause-by_comparison : goal.returns-clause-by_comparison
returns-clause-by_comparison c = (refl, refl)

pub returns-clause-by_is : goal.returns-clause-by_is
returns-clause-by_is c = (refl, refl, refl)
