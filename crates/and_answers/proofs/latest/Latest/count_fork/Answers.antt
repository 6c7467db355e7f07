use Rattle.and_answers.proofs.BesideLemmas.{last_kept}
use Rattle.and_answers.proofs.latest.Latest.count_fork.Goals as goal

pub invariant_of-self : goal.invariant_of-self
invariant_of-self c = last_kept c.self.inside.found c.count_fork.new.self c.self.inside.code c.count_fork.ensures.rest.1 c.self.invariant
