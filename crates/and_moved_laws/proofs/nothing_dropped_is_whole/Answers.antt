use Rattle.and_moved_laws.proofs.Undropped
use Rattle.and_moved_laws.proofs.nothing_dropped_is_whole.Goals as goal

pub returns : goal.returns
returns c = λ P rs frames part kept t k all. Undropped.undropped_kept P rs frames part kept t k all
