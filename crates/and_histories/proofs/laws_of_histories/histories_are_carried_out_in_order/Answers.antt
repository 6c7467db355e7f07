use Rattle.and_histories.proofs.laws_of_histories.histories_are_carried_out_in_order.Goals as goal
use Rattle.and_histories.proofs.Carrying.{one_state, carried_in_parts}

pub returns-clause-one_state : goal.returns-clause-one_state
returns-clause-one_state c = one_state

pub returns-clause-in_parts : goal.returns-clause-in_parts
returns-clause-in_parts c = carried_in_parts
