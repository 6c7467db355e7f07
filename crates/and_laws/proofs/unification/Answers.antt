use Rattle.and_laws.proofs.Unifying.{unify}
use Rattle.and_laws.proofs.Solving.{solvable_under, under_solvable, general_then}
use Rattle.and_laws.proofs.unification.Goals as goal

pub returns-clause-theorem : goal.returns-clause-theorem
returns-clause-theorem c = unify

pub returns-clause-one_more : goal.returns-clause-one_more
returns-clause-one_more c = λ s es a b m. (solvable_under s es a b m, under_solvable s es a b m)

pub returns-clause-composed : goal.returns-clause-composed
returns-clause-composed c = general_then
