use Rattle.and_answers.proofs.BesideLemmas.{kept}
use Rattle.and_answers.proofs.coded.Coded.count_failed.Goals as goal

pub invariant_of-self : goal.invariant_of-self
invariant_of-self c = kept c.self.inside.found c.count_failed.new.self c.self.inside.codes c.count_failed.ensures.rest.1 c.self.invariant
