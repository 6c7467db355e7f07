use Rattle.and_branch_laws.proofs.Keeping
use Rattle.and_branch_laws.proofs.candidates_of_cells.Goals as goal

pub returns : goal.returns
returns c = λ P rs row kept t k f fresh d own h called apart. Keeping.candidates_of_cells P own rs row kept t k f h called fresh apart d
