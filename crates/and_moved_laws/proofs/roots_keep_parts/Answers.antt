use Rattle.and_moved_laws.proofs.Rooting
use Rattle.and_moved_laws.proofs.roots_keep_parts.Goals as goal

pub returns : goal.returns
returns c = λ P new loaded x names. Rooting.root_kept P loaded new x names
