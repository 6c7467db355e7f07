-- What the workers of a phase made of a branch that was taken apart (this project's own).
use Rattle.std.specs.Prelude.{◌≡◌, false, List, ◌++◌, length}
use Rattle.and_model.specs.declared.goal.Reduction.{Reduction}
use Rattle.and_model.specs.declared.reference.Ref.{Ref}
use Rattle.and_cells.specs.Ranges.{NamedProgram}
use Rattle.and_worker_laws.specs.Leavings.{AreReady}
use Rattle.and_branch.specs.declared.parts.Parts.{Parts}
use Rattle.and_branch.specs.declared.rebuilding.Worked.{Worked}
use Rattle.and_gathering.specs.Gathering.{IsGathered}
use Rattle.and_gathering.specs.declared.gathering.Gathered.{Gathered}
use Rattle.and_handed.specs.declared.told.HandedOn.{HandedOn}
use Rattle.and_row_check.specs.Places.{all_frames, IsWhole, ArePairsWhole}
use Rattle.and_closing_laws.specs.Phases.{HasPhased}
use Rattle.and_phase.specs.declared.joining.Joined.{Joined}

-- The row ends with the frames of the reductions that were made behind the old ones. It is whole, and where the tree
-- was not found dead, so are the pairs, and the goals that are left are ready.
pub record LooksWhole (P : NamedProgram) (old : List Reduction) (row : List Ref) (done : Gathered) : Type 0 where
  pub long : length row ≡ done.end
  pub whole : IsWhole P (all_frames (old ++ done.made)) row
  pub pairs : done.failed ≡ false → ArePairsWhole P (all_frames (old ++ done.made)) row done.pairs
  pub ready : done.failed ≡ false → AreReady P row done.goals.items

-- Workers went over a store that began with the cells of these parts; what they did was gathered, and looks found it
-- whole.
pub record IsJoined {N : Type 0} (P : NamedProgram) (parts : Parts N) (j : Joined) : Type 0 where
  pub tolds : List HandedOn
  pub phased : HasPhased P parts.cells j.cells tolds
  pub gathered : IsGathered P.program parts.goals.items parts.used parts.limit tolds j.done
  pub whole : LooksWhole P parts.reductions j.cells j.done

-- That is to be made a branch again.
pub record IsWorkOf {N : Type 0} (j : Joined) (w : Worked N) : Type 0 where
  pub cells : w.cells ≡ j.cells
  pub made : w.made ≡ j.done.made
  pub goals : w.goals.items ≡ j.done.goals.items
  pub pairs : w.pairs ≡ j.done.pairs
  pub failed : w.failed ≡ j.done.failed
