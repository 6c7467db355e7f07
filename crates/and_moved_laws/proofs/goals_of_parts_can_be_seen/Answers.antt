use Rattle.and_moved_laws.proofs.KeptParts
use Rattle.and_moved_laws.proofs.PartGoals
use Rattle.and_moved_laws.proofs.Running
use Rattle.and_moved_laws.proofs.goals_of_parts_can_be_seen.Goals as goal

pub returns-clause-row : goal.returns-clause-row
returns-clause-row c = λ P rs frames part kept t k. (
  PartGoals.row_sound P rs frames part kept t k,
  PartGoals.part_settled P rs frames part kept t k,
  PartGoals.part_fits P rs frames part kept t k,
)

pub returns-clause-in_range : goal.returns-clause-in_range
returns-clause-in_range c = λ P rs frames part kept t f loaded k h. PartGoals.goal_range P rs frames part kept t k loaded f h

pub returns-clause-whole : goal.returns-clause-whole
returns-clause-whole c = λ P rs frames part kept t f v own k h i.
    (let g = KeptParts.kept_goal P own rs frames part kept t k f h in g.whole v i)

pub returns-clause-free : goal.returns-clause-free
returns-clause-free c = λ P rs frames part kept t f loaded k h. PartGoals.goal_pair P rs frames part kept t k loaded f h

pub returns-clause-pair : goal.returns-clause-pair
returns-clause-pair c = λ P rs frames part kept t f left right pair loaded k h node. (
  Running.first_moves P loaded rs frames part kept t k f h left right pair node,
  Running.second_moves P loaded rs frames part kept t k f h left right pair node,
)

pub returns-clause-unnamed : goal.returns-clause-unnamed
returns-clause-unnamed c = λ P at part whole place m none_there. PartGoals.unnamed_here P at part whole m place none_there
