use Rattle.and_branch_laws.proofs.Places
use Rattle.and_branch_laws.proofs.frames_lie_side_by_side.Goals as goal

pub returns-clause-within : goal.returns-clause-within
returns-clause-within c = λ P rs t n d made has. Places.frame_within P.program rs t made n d has

pub returns-clause-apart : goal.returns-clause-apart
returns-clause-apart c = λ P rs t n d m e made has has2 l. Places.frames_apart P.program rs t made n d m e has has2 l
