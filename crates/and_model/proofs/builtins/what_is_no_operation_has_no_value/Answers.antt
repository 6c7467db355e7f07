use Rattle.and_model.proofs.builtins.what_is_no_operation_has_no_value.Goals as goal
use Rattle.and_model.proofs.Operations.{none_of_values}

pub returns : goal.returns
returns c = none_of_values
