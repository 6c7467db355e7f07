use Rattle.and_beginnings.proofs.Words.{beginning_taken}
use Rattle.and_beginnings.proofs.laws.clauses_of_a_beginning.Goals as goal

pub returns : goal.returns
returns c = beginning_taken
