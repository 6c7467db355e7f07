use Rattle.std.proofs.Common.{[]}
use Rattle.and_automaton.proofs.Derived.{clause_taken}
use Rattle.and_automaton.proofs.Texts.{text_taken, same_text}
use Rattle.and_automaton.proofs.derived_is_accepted.Goals as goal

pub returns-clause-clause : goal.returns-clause-clause
returns-clause-clause c = λ limited ws q w d. clause_taken limited d

pub returns-clause-text : goal.returns-clause-text
returns-clause-text c = λ limited ws ss text. text_taken limited ws ss text []

pub returns-clause-one_reading : goal.returns-clause-one_reading
returns-clause-one_reading c = same_text
