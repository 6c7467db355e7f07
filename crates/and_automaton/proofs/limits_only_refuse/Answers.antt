use Rattle.and_automaton.proofs.Texts.{step_free, run_free, text_free}
use Rattle.and_automaton.proofs.limits_only_refuse.Goals as goal

pub returns-clause-one_step : goal.returns-clause-one_step
returns-clause-one_step c = λ s t x. step_free s x t

pub returns-clause-steps : goal.returns-clause-steps
returns-clause-steps c = run_free

pub returns-clause-text : goal.returns-clause-text
returns-clause-text c = text_free
