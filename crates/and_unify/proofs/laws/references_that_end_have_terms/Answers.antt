use Rattle.and_unify.proofs.SettlingTerms.{ended_has_term}
use Rattle.and_unify.proofs.laws.references_that_end_have_terms.Goals as goal

pub returns : goal.returns
returns c = ended_has_term
