use Rattle.and_moved_laws.proofs.Ending
use Rattle.and_moved_laws.proofs.lines_of_kept_parts.Goals as goal

pub returns : goal.returns
returns c = λ P rs frames part kept t loaded k. Ending.line_of_part P loaded rs frames part kept t k
