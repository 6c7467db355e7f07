use Rattle.and_moved_laws.proofs.ClosedParts
use Rattle.and_moved_laws.proofs.closed_where_none_of_a_part_is_ground.Goals as goal

pub returns-clause-closed : goal.returns-clause-closed
returns-clause-closed c = λ P rs frames part kept t k es gs loaded none closed.
    ClosedParts.closed_is P loaded rs frames part kept t k none es gs closed

pub returns-clause-candidates : goal.returns-clause-candidates
returns-clause-candidates c = λ P rs frames part kept t es gs f o d loaded k none closed h called path_is. (
  λ x. ClosedParts.candidate_in_tree P loaded rs frames part kept t k es gs closed f h called o path_is d none x,
  λ x. ClosedParts.candidate_of_cells P loaded rs frames part kept t k es gs closed f h called o path_is d x,
)

pub returns-clause-shut : goal.returns-clause-shut
returns-clause-shut c = λ P rs frames part kept t loaded k none each. ClosedParts.tree_shut P loaded rs frames part kept t k none each
