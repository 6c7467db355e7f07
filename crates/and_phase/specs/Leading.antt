-- Branches that come of others, perhaps by way of a row of their own (this project's own).
use Rattle.and_model.specs.Trees.{QueryTree}
use Rattle.and_model.specs.Reached.{Steps}
use Rattle.and_cells.specs.Ranges.{NamedProgram}
use Rattle.and_branch.specs.Branches.{Held, IsBranchOf}
use Rattle.and_branch.specs.Origins.{KeepsWhatIsNoted}

-- The new branch stands for a tree to which Steps lead from the old one's. What could be had again of the old one can
-- be of the new, unless nothing is noted of its row any longer.
pub record LeadsOn (P : NamedProgram) (old new : Held) : Type 0 where
  pub each : (t : QueryTree P.program) → IsBranchOf P old t → (u : QueryTree P.program) × IsBranchOf P new u × Steps t u
  pub back : KeepsWhatIsNoted old new
