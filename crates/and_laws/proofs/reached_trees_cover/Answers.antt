use Rattle.and_laws.proofs.Keys.{reached_decided}
use Rattle.and_laws.proofs.Covering.{split_covers, reached_covers}
use Rattle.and_laws.proofs.reached_trees_cover.Goals as goal

pub returns-clause-split : goal.returns-clause-split
returns-clause-split c = λ P. split_covers

pub returns-clause-covers : goal.returns-clause-covers
returns-clause-covers c = reached_covers

pub returns-clause-begins : goal.returns-clause-begins
returns-clause-begins c = reached_decided
