use Rattle.and_branch_laws.proofs.Lining
use Rattle.and_branch_laws.proofs.lines_of_cells.Goals as goal

pub returns : goal.returns
returns c = λ P rs row kept t loaded k. Lining.line_of_cells P loaded rs row kept t k
