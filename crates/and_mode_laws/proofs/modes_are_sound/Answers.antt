use Rattle.and_mode_laws.proofs.Soundness.{calls_have_levels, never_flounders}
use Rattle.and_mode_laws.proofs.modes_are_sound.Goals as goal

pub returns-clause-levels : goal.returns-clause-levels
returns-clause-levels c = calls_have_levels

pub returns-clause-never_flounders : goal.returns-clause-never_flounders
returns-clause-never_flounders c = never_flounders
