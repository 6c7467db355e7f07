use Rattle.and_walk_laws.proofs.Numbering.{alone_over}
use Rattle.and_walk_laws.proofs.too_heavy.Goals as goal

pub returns : goal.returns
returns c = alone_over
