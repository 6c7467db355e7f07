use Rattle.and_laws.proofs.Placing.{makes_same, parent_below, node_bounds, node_once}
use Rattle.and_laws.proofs.reductions_make_one_tree.Goals as goal

pub returns-clause-one : goal.returns-clause-one
returns-clause-one c = makes_same

pub returns-clause-numbers : goal.returns-clause-numbers
returns-clause-numbers c = λ P rs t m r h. (parent_below P rs t m r h, (node_bounds P rs t m r h).1)

pub returns-clause-own : goal.returns-clause-own
returns-clause-own c = node_once
