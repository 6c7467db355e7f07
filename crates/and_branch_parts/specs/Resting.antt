-- Branches all of whose arithmetic waits.
use Rattle.std.specs.Prelude.{◌≡◌, List, [], Contains}
use Rattle.and_model.specs.declared.goal.Goal.{Goal}
use Rattle.and_cells.specs.Ranges.{NamedProgram}
use Rattle.and_reduction.specs.Runs.{IsWaiting}
use Rattle.and_branch_parts.specs.Branches.{Held, IsArithmeticGoal}

-- The key, the limit, and the tree that is written down are the same.
pub record SameTree (old new : Held) : Type 0 where
  pub key : new.key ≡ old.key
  pub limit : new.limit ≡ old.limit
  pub reductions : new.reductions ≡ old.reductions

-- The arithmetic among these goals waits.
abbrev pub AllWait : NamedProgram → Held → List Goal → Type 0
AllWait P b gs = (g : Goal) → Contains gs g → IsArithmeticGoal P g → IsWaiting P b.row g

-- All its arithmetic waits, and it is at work behind its goals.
pub record IsResting (P : NamedProgram) (b : Held) : Type 0 where
  pub past : b.right ≡ []
  pub waits : AllWait P b b.left
