use Rattle.and_first.proofs.StepLemmas.{next_is, last_is}
use Rattle.and_first.proofs.steps.step_after.Goals as goal

pub returns-then-next-limit : goal.returns-then-next-limit
returns-then-next-limit c = next_is c.args.limit c.args.step c.requires.is_step c.requires.below c.if-next-limit.true

pub returns-else-next-limit : goal.returns-else-next-limit
returns-else-next-limit c = last_is c.args.limit c.args.step c.requires.is_step c.requires.below c.if-next-limit.false
