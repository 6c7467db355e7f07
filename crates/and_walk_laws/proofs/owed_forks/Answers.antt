use Rattle.and_walk_laws.proofs.Forking.{some_clauses, owed_fitting}
use Rattle.and_walk_laws.proofs.owed_forks.Goals as goal

pub returns-clause-fitting : goal.returns-clause-fitting
returns-clause-fitting c = owed_fitting

pub returns-clause-clauses : goal.returns-clause-clauses
returns-clause-clauses c = λ P t s o. some_clauses t s o
