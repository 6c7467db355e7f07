use Rattle.and_moved_laws.proofs.Running
use Rattle.and_moved_laws.proofs.States
use Rattle.and_moved_laws.proofs.dead_parts.Goals as goal

pub returns-clause-candidate : goal.returns-clause-candidate
returns-clause-candidate c = λ P rs frames part kept t f loaded k h called no_one.
    States.no_candidate_is_dead P loaded rs frames part kept t k f h called no_one

pub returns-clause-comparison : goal.returns-clause-comparison
returns-clause-comparison c = λ P rs frames part kept t f r a b u v loaded k h item one other first second is_false.
    Running.comparison_fails P loaded rs frames part kept t k f h r a b u v item one other first second is_false

pub returns-clause-no_value : goal.returns-clause-no_value
returns-clause-no_value c = λ P rs frames part kept t f l r u loaded k h item read ground no_value.
    Running.no_value_fails P loaded rs frames part kept t k f h l r u item read ground no_value

pub returns-clause-assignment : goal.returns-clause-assignment
returns-clause-assignment c =
    λ P rs frames part written front f back t l r u z left right pair loaded k item node read ground valued is_written no_solution.
    Running.assignment_fails P loaded rs frames part front f back t k l r u z left right pair item node read ground valued written is_written
    no_solution

pub returns-clause-reduction : goal.returns-clause-reduction
returns-clause-reduction c = λ P rs frames part front f back t o d of_it loaded k called path_is no_solution.
    States.unsolved_is_dead P loaded rs frames part front f back t k called o path_is d of_it no_solution

pub returns-clause-failing : goal.returns-clause-failing
returns-clause-failing c = λ P rs frames part front f back t o d of_it loaded k called path_is has.
    States.failing_is_dead P loaded rs frames part front f back t k called o path_is d of_it has
