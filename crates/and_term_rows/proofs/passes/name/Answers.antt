use Rattle.and_term_rows.proofs.Small.{name_in_range}
use Rattle.and_term_rows.proofs.passes.name.Goals as goal

pub returns-clause-in_range : goal.returns-clause-in_range
returns-clause-in_range c = λ words. name_in_range words c.args.number c.requires
