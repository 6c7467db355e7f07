use Rattle.and_sld.proofs.Queries.{relevant_suffice}
use Rattle.and_sld.proofs.Strict.{relevant_is_strict}
use Rattle.and_sld.proofs.relevant_unifiers_suffice.Goals as goal

pub returns-clause-relevant : goal.returns-clause-relevant
returns-clause-relevant c = relevant_suffice

pub returns-clause-strict : goal.returns-clause-strict
returns-clause-strict c = relevant_is_strict
