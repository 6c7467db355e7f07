-- Copies that are taken down a stack (this project's own).
use Rattle.std.specs.Prelude.{ℕ, ◌≡◌, List, Some, slice_get}
use Rattle.and_model.specs.Prefixes.{IsPrefix}
use Rattle.and_branch.specs.Branches.{Held}
use Rattle.and_branch.specs.Copies.{IsBackAt}
use Rattle.and_tasks.specs.declared.stack.Level.{Level}
use Rattle.and_tasks.specs.declared.stack.Task.{Task}
use Rattle.and_tasks.specs.declared.stack.Task.TheVariants.{Children}

-- The branch has the row and the reductions of the one that was forked, and its key begins with what was decided there.
pub record IsCopyOf {N : Type 0} (l : Level N) (b : Held) : Type 0 where
  pub back : IsBackAt l.point.parent b
  pub begins : IsPrefix l.point.longer b.key

-- (if a fork stands at the place)
abbrev pub IsCopyAt : {N : Type 0} → List (Task N) → (place : ℕ) → Held → Type 0
IsCopyAt {N} stack place b = (l : Level N) → slice_get stack place ≡ Some (Children l) → IsCopyOf l b
