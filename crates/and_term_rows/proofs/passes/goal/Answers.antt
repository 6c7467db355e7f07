use Rattle.and_term_rows.proofs.Small.{goal_in_range}
use Rattle.and_term_rows.proofs.passes.goal.Goals as goal

pub returns : goal.returns
returns c = λ words. goal_in_range words c.args.number c.requires
