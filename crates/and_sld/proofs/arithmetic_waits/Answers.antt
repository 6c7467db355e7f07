use Rattle.and_sld.proofs.Trials.{comes_late, flounders}
use Rattle.and_sld.proofs.arithmetic_waits.Goals as goal

pub returns-clause-late : goal.returns-clause-late
returns-clause-late c = comes_late

pub returns-clause-flounders : goal.returns-clause-flounders
returns-clause-flounders c = flounders
