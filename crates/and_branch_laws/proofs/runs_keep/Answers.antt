use Rattle.and_branch_laws.proofs.Asking
use Rattle.and_branch_laws.proofs.runs_keep.Goals as goal

pub returns-clause-comparison : goal.returns-clause-comparison
returns-clause-comparison c = λ P rs row front f back t r a b u v loaded k item one other first second is_true.
    Asking.comparison_keeps P loaded rs row front f back t k r a b u v item one other first second is_true

pub returns-clause-assignment : goal.returns-clause-assignment
returns-clause-assignment c = λ P rs row written new front f back t l r u z left right pair loaded k item node read ground valued sound
    is_written x. Asking.assignment_keeps P loaded rs row front f back t k l r u z left right pair item node read ground valued written
    sound is_written new x

pub returns-clause-pair_is_free : goal.returns-clause-pair_is_free
returns-clause-pair_is_free c = λ P rs row kept f t left right pair k h node. Asking.pair_is_free P rs row kept t k f h left right pair node
