use Rattle.and_tree.proofs.Hands.{fresh_of}
use Rattle.and_tree.proofs.Opened.{fresh_long}
use Rattle.and_tree.proofs.laws.passes_at_the_opening.Goals as goal

pub returns-clause-of : goal.returns-clause-of
returns-clause-of c = fresh_of

pub returns-clause-count : goal.returns-clause-count
returns-clause-count c = fresh_long
