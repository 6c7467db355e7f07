use Rattle.and_branch_laws.proofs.Asking
use Rattle.and_branch_laws.proofs.Rows
use Rattle.and_branch_laws.proofs.cells_are_whole.Goals as goal

pub returns-clause-goals : goal.returns-clause-goals
returns-clause-goals c = λ P rs row kept t f v own k h i. Asking.goal_cells_whole P own rs row kept t k f h v i

pub returns-clause-widened : goal.returns-clause-widened
returns-clause-widened c = λ row by place. Rows.widened_words row by place
