use Rattle.and_branch_laws.specs.Judging.{outside}
use Rattle.and_branch_laws.proofs.Asking
use Rattle.and_branch_laws.proofs.Keeping
use Rattle.and_branch_laws.proofs.Stepping
use Rattle.and_branch_laws.proofs.dead_branches.Goals as goal

pub returns-clause-candidate : goal.returns-clause-candidate
returns-clause-candidate c = λ P rs row kept t f loaded k h called none.
    let found = Keeping.kept_open P loaded.own rs row kept t k f h called in
    Stepping.none_is_dead P loaded rs row kept t k f h called found.0 found.1 outside (λ e. cc) none

pub returns-clause-comparison : goal.returns-clause-comparison
returns-clause-comparison c = λ P rs row kept t f r a b u v loaded k h item one other first second is_false.
    Asking.comparison_fails P loaded rs row kept t k f h r a b u v item one other first second is_false

pub returns-clause-no_value : goal.returns-clause-no_value
returns-clause-no_value c = λ P rs row kept t f l r u loaded k h item read ground none. Asking.no_value_fails P loaded rs row kept t k f h
    l r u item read ground none

pub returns-clause-assignment : goal.returns-clause-assignment
returns-clause-assignment c =
    λ P rs row written front f back t l r u z left right pair loaded k item node read ground valued sound is_written none.
    Asking.assignment_fails P loaded rs row front f back t k l r u z left right pair item node read ground valued written sound is_written
    none

pub returns-clause-reduction : goal.returns-clause-reduction
returns-clause-reduction c = λ P rs row front f back t o d of_it loaded k called path_is none. Stepping.unsolved_reductions_die P loaded
    rs row front f back t k called o path_is d of_it none

pub returns-clause-failing : goal.returns-clause-failing
returns-clause-failing c = λ P rs row front f back t o d of_it loaded k called path_is has. Stepping.failing_bodies_die P loaded rs row
    front f back t k called o path_is d of_it has
