use Rattle.and_branch_laws.proofs.Judging
use Rattle.and_branch_laws.proofs.closed_where_none_is_ground.Goals as goal

pub returns-clause-closed : goal.returns-clause-closed
returns-clause-closed c = λ P rs row kept t k es gs loaded none closed. Judging.closed_is P loaded rs row kept t k none es gs closed

pub returns-clause-candidates : goal.returns-clause-candidates
returns-clause-candidates c = λ P rs row kept t es gs f o d loaded k none closed h called path_is. (
  λ x. Judging.candidate_in_tree P loaded rs row kept t k none es gs closed f h called o path_is d x,
  λ x. Judging.candidate_of_cells P loaded rs row kept t k es gs closed f h called o path_is d x,
)

pub returns-clause-shut : goal.returns-clause-shut
returns-clause-shut c = λ P rs row kept t loaded k none each. Judging.tree_shut P loaded rs row kept t k none each
