use Rattle.and_moved_laws.proofs.KeptParts
use Rattle.and_moved_laws.proofs.whole_rows_are_parts.Goals as goal

pub returns : goal.returns
returns c = λ P rs row kept t frames own k all names. KeptParts.whole_kept P own rs row kept t k frames all names
