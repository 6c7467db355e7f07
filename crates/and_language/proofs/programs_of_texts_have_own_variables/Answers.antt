use Rattle.and_language.proofs.OwnVariables.{own_variables}
use Rattle.and_language.proofs.programs_of_texts_have_own_variables.Goals as goal

pub returns : goal.returns
returns c = λ bytes P r. own_variables bytes P r
