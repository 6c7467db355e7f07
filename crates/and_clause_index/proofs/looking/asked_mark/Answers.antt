use Rattle.std.proofs.Common.{refl}
use Rattle.and_clause_index.proofs.looking.asked_mark.Goals as goal

pub returns-then-asked-eq0-clause-tells : goal.returns-then-asked-eq0-clause-tells
returns-then-asked-eq0-clause-tells g c = λ row has s solves some. absurd (some refl)
