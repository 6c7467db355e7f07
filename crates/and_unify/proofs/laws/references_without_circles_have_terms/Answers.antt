use Rattle.and_unify.proofs.HeldTerms.{held_has_term}
use Rattle.and_unify.proofs.laws.references_without_circles_have_terms.Goals as goal

pub returns : goal.returns
returns c = held_has_term
