use Rattle.and_laws.proofs.Order.{none_whole, below_self, whole_same, code_tree}
use Rattle.and_laws.proofs.closed_trees_are_proofs.Goals as goal

pub returns-clause-whole : goal.returns-clause-whole
returns-clause-whole c = λ P ag t none. (none_whole t none, below_self t)

pub returns-clause-only_one : goal.returns-clause-only_one
returns-clause-only_one c = λ P ag t u none b. whole_same t u (none_whole t none) b

pub returns-clause-one_code : goal.returns-clause-one_code
returns-clause-one_code c = λ P ag. code_tree
