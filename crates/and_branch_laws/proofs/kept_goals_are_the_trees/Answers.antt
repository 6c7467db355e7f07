use Rattle.std.proofs.Common.{◌∙◌, map}
use Rattle.and_model.specs.Trees.{equations}
use Rattle.and_laws.proofs.Agreement.{query_apart}
use Rattle.and_laws.proofs.OpenPaths.{one_open}
use Rattle.and_branch_laws.specs.Tasks.{tasks}
use Rattle.and_branch_laws.specs.Kept.{task_of}
use Rattle.and_branch_laws.proofs.Tasks
use Rattle.and_branch_laws.proofs.Keeping
use Rattle.and_branch_laws.proofs.Reading
use Rattle.and_branch_laws.proofs.kept_goals_are_the_trees.Goals as goal

pub returns-clause-calls : goal.returns-clause-calls
returns-clause-calls c = λ P rs row kept t k. Reading.calls_are P.program kept
    ∙ Tasks.ran_calls (equations t) (tasks t) k.solved (map (task_of P.program) kept) k.ran ∙ Tasks.tasks_calls t

pub returns-clause-arithmetic : goal.returns-clause-arithmetic
returns-clause-arithmetic c = λ P rs row kept t k. Tasks.tree_ran t k.solved (map (task_of P.program) kept) k.ran

pub returns-clause-open : goal.returns-clause-open
returns-clause-open c = λ P rs row kept t f own k h called. Keeping.kept_open P own rs row kept t k f h called

pub returns-clause-one : goal.returns-clause-one
returns-clause-one c = λ P t o p e. one_open t o p (query_apart P.program) e
