use Rattle.and_part_steps.proofs.Taking
use Rattle.and_part_steps.proofs.taking_keeps_parts.Goals as goal

pub returns-clause-kept : goal.returns-clause-kept
returns-clause-kept c = λ P rs frames part new front f back t o d of_it node loaded k called path_is short node_of settled sets.
    Taking.taken_kept P loaded rs frames part front f back t k called o path_is d of_it short node node_of new settled sets

pub returns-clause-step : goal.returns-clause-step
returns-clause-step c = λ P rs frames part kept t f d loaded k h called of_goal only.
    Taking.sole_step P loaded rs frames part kept t k f h called d of_goal only

pub returns-clause-sole : goal.returns-clause-sole
returns-clause-sole c = λ P rs frames part new front f back t d node loaded k called of_goal only short node_of settled sets.
    Taking.sole_kept P loaded rs frames part front f back t k called d of_goal only short node node_of new settled sets

pub returns-clause-body : goal.returns-clause-body
returns-clause-body c = λ base d n q r i items. Taking.same_goals base d n q r i items
