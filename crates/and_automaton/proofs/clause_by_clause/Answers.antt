use Rattle.and_automaton.proofs.Begun.{one_split}
use Rattle.and_automaton.proofs.Texts.{joined, one_clause, none_ends}
use Rattle.and_automaton.specs.Machine.{start}
use Rattle.and_automaton.proofs.clause_by_clause.Goals as goal

pub returns-clause-joined : goal.returns-clause-joined
returns-clause-joined c = joined

pub returns-clause-one : goal.returns-clause-one
returns-clause-one c = one_clause

pub returns-clause-none_ends : goal.returns-clause-none_ends
returns-clause-none_ends c = λ limited ps s. none_ends limited start s ps

pub returns-clause-one_split : goal.returns-clause-one_split
returns-clause-one_split c = one_split
