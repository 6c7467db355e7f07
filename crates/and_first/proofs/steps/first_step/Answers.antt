use Rattle.and_first.proofs.StepLemmas.{first_least, only_least}
use Rattle.and_first.proofs.steps.first_step.Goals as goal

pub returns-then-limit-gt256-clause-least : goal.returns-then-limit-gt256-clause-least
returns-then-limit-gt256-clause-least c = λ other is. first_least c.args.limit other c.if-limit-gt256.true is

pub returns-else-limit-gt256-clause-least : goal.returns-else-limit-gt256-clause-least
returns-else-limit-gt256-clause-least c = λ other is. only_least c.args.limit other c.if-limit-gt256.false is
