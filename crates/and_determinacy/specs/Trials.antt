-- A clause that is tried on a row.
use Rattle.std.specs.Prelude.{ℕ, ◌+◌, ◌≡◌, List, length}
use Rattle.and_model.specs.Programs.{clause_at}
use Rattle.and_model.specs.declared.reference.Ref.{Ref}
use Rattle.and_program.specs.Loaded.{nodes_at}
use Rattle.and_cells.specs.Ranges.{NamedProgram}
use Rattle.and_cells.specs.Rows.{IsSound}
use Rattle.and_branch_laws.specs.Settling.{widened}

-- A frame for the clause's variables was put behind the row, at the floor, and the node is that of the clause's head.
pub record IsPrepared (P : NamedProgram) (row wide : List Ref) (head clause floor : ℕ) : Type 0 where
  pub behind : floor ≡ length row
  pub wide_is : wide ≡ widened row (1 + (clause_at P.program clause).variables)
  pub head_is : head ≡ (nodes_at P.skeleton clause).head
  pub sound : IsSound P row
  pub wide_sound : IsSound P wide
