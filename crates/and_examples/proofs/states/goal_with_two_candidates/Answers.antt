use Rattle.and_examples.proofs.StateExamples
use Rattle.and_examples.proofs.states.goal_with_two_candidates.Goals as goal

pub returns-clause-both_fit : goal.returns-clause-both_fit
returns-clause-both_fit c = StateExamples.both_fit

pub returns-clause-first_alone_fits : goal.returns-clause-first_alone_fits
returns-clause-first_alone_fits c = StateExamples.first_alone_fits

pub returns-clause-all_over : goal.returns-clause-all_over
returns-clause-all_over c = StateExamples.all_over

pub returns-clause-not_uncut : goal.returns-clause-not_uncut
returns-clause-not_uncut c = StateExamples.not_uncut
