use Rattle.and_laws.proofs.Unfolding.{unfolding_code, code_unfolds, whole_decided}
use Rattle.and_laws.proofs.unfolded_codes.Goals as goal

pub returns-clause-unfolding : goal.returns-clause-unfolding
returns-clause-unfolding c = unfolding_code

pub returns-clause-decided : goal.returns-clause-decided
returns-clause-decided c = code_unfolds

pub returns-clause-whole : goal.returns-clause-whole
returns-clause-whole c = λ P t w. code_unfolds P t (whole_decided t w)
