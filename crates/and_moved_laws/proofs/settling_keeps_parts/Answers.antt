use Rattle.and_branch_laws.proofs.Settling as settling
use Rattle.and_moved_laws.proofs.KeptParts
use Rattle.and_moved_laws.proofs.settling_keeps_parts.Goals as goal

pub returns : goal.returns
returns c = λ P rs row new es kept t frames loaded u x all names.
    KeptParts.whole_kept P loaded.own rs new kept t (settling.settled_kept P loaded rs row es kept t u new x) frames all names
