use Rattle.and_automaton.proofs.Accepted.{clause_accepted}
use Rattle.and_automaton.proofs.Texts.{text_accepted}
use Rattle.and_automaton.proofs.accepted_is_derived.Goals as goal

pub returns-clause-clause : goal.returns-clause-clause
returns-clause-clause c = clause_accepted

pub returns-clause-text : goal.returns-clause-text
returns-clause-text c = text_accepted
