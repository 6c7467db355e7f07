use Rattle.std.proofs.Common.{arith}
use Rattle.and_clauses.proofs.LiftClauses.{name_at}
use Rattle.and_clauses.proofs.lifting.name_of.Goals as goal

pub returns-clause-name : goal.returns-clause-name
returns-clause-name c =
    name_at c.args.lifting.disjunctions.now c.args.lifting.numbers.now c.args.disjunction (record { 0 = 0 }) c.requires.there c.requires.lifting.numbered

pub returns-clause-within : goal.returns-clause-within
returns-clause-within c =
    c.requires.lifting.within c.args.disjunction (record { 0 = 0 }) (omega (arith, c.requires.there, c.requires.lifting.numbered))
