use Rattle.and_moved_laws.proofs.KeptParts
use Rattle.and_moved_laws.proofs.dropping_keeps.Goals as goal

pub returns : goal.returns
returns c = λ P rs frames part kept t chosen own k are. KeptParts.dropped_kept P own rs frames part kept t k chosen are
