use Rattle.and_examples.proofs.StateExamples
use Rattle.and_examples.proofs.states.goals_with_one_candidate.Goals as goal

pub returns-clause-first_fits : goal.returns-clause-first_fits
returns-clause-first_fits c = StateExamples.first_fits

pub returns-clause-second_fits : goal.returns-clause-second_fits
returns-clause-second_fits c = StateExamples.second_fits

pub returns-clause-neither_fits : goal.returns-clause-neither_fits
returns-clause-neither_fits c = StateExamples.neither_fits

pub returns-clause-not_over : goal.returns-clause-not_over
returns-clause-not_over c = StateExamples.not_over

pub returns-clause-no_cut : goal.returns-clause-no_cut
returns-clause-no_cut c = StateExamples.no_cut
