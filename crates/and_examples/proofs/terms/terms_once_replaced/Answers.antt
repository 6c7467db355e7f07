use Rattle.and_examples.proofs.TermExamples
use Rattle.and_examples.proofs.terms.terms_once_replaced.Goals as goal

pub returns-clause-once : goal.returns-clause-once
returns-clause-once c = TermExamples.once

pub returns-clause-ground : goal.returns-clause-ground
returns-clause-ground c = TermExamples.ground
