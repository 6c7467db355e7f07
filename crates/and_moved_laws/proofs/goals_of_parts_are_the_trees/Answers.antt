use Rattle.and_moved_laws.proofs.PartGoals
use Rattle.and_moved_laws.proofs.goals_of_parts_are_the_trees.Goals as goal

pub returns-clause-made : goal.returns-clause-made
returns-clause-made c = λ P rs frames part kept t k. PartGoals.tree_made P rs frames part kept t k

pub returns-clause-framed : goal.returns-clause-framed
returns-clause-framed c = λ P rs frames part kept t f k h. PartGoals.goal_placed P rs frames part kept t k f h

pub returns-clause-calls : goal.returns-clause-calls
returns-clause-calls c = λ P rs frames part kept t k. PartGoals.calls_of_tree P rs frames part kept t k

pub returns-clause-arithmetic : goal.returns-clause-arithmetic
returns-clause-arithmetic c = λ P rs frames part kept t k. PartGoals.arithmetic_of_tree P rs frames part kept t k

pub returns-clause-open : goal.returns-clause-open
returns-clause-open c = λ P rs frames part kept t f own k h called. PartGoals.open_of_tree P rs frames part kept t k own f h called
