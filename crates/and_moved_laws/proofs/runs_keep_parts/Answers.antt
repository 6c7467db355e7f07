use Rattle.and_moved_laws.proofs.Running
use Rattle.and_moved_laws.proofs.runs_keep_parts.Goals as goal

pub returns-clause-comparison : goal.returns-clause-comparison
returns-clause-comparison c = λ P rs frames part front f back t r a b u v loaded k item one other first second is_true.
    Running.comparison_keeps P loaded rs frames part front f back t k r a b u v item one other first second is_true

pub returns-clause-assignment : goal.returns-clause-assignment
returns-clause-assignment c =
    λ P rs frames part written new front f back t l r u z left right pair loaded k item node read ground valued is_written x names.
    Running.assignment_keeps P loaded rs frames part front f back t k l r u z left right pair item node read ground valued written is_written
    new x names

pub returns-clause-pair_is_free : goal.returns-clause-pair_is_free
returns-clause-pair_is_free c = λ P rs frames part kept f t left right pair loaded k h node.
    Running.pair_is_free P loaded rs frames part kept t k f h left right pair node

pub returns-clause-pair_named : goal.returns-clause-pair_named
returns-clause-pair_named c = λ P rs frames part kept f t left right pair loaded k h node.
    Running.pair_named P loaded rs frames part kept t k f h left right pair node

pub returns-clause-left_named : goal.returns-clause-left_named
returns-clause-left_named c = λ P rs frames part kept f t words left right pair loaded k h range node.
    Running.left_named P loaded rs frames part kept t k f h words left right pair range node
