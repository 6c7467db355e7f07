use Rattle.and_part_steps.proofs.KeptGoals
use Rattle.and_part_steps.proofs.goals_of_parts_can_be_taken.Goals as goal

pub returns-clause-judged : goal.returns-clause-judged
returns-clause-judged c = λ P rs frames part kept t f term loaded k h is. KeptGoals.can_be_judged P loaded rs frames part kept t k f h term is

pub returns-clause-run : goal.returns-clause-run
returns-clause-run c = λ P rs frames part kept t f a loaded k h is. KeptGoals.can_be_run P loaded rs frames part kept t k f h a is

pub returns-clause-unnamed : goal.returns-clause-unnamed
returns-clause-unnamed c = λ P rs frames part kept t f loaded k h. KeptGoals.pair_is_unnamed P loaded rs frames part kept t k f h
