-- Paths that are followed by a list of references from which they are still to be followed.
use Rattle.std.specs.Prelude.{ℕ, ◌≡◌, false, List, ◌++◌, length, get_or, All}
use Rattle.and_model.specs.declared.numbers.NodeNo.{NodeNo}
use Rattle.and_model.specs.declared.reference.Ref.{Ref}
use Rattle.and_model.specs.declared.reference.Ref.TheVariants as ref
use Rattle.and_program.specs.Loaded.{arguments_at}
use Rattle.and_cells.specs.Ranges.{NamedProgram, IsInRange}
use Rattle.and_cells.specs.Parts.{part_at}
use Rattle.and_cells.specs.Ends.{Ends}
use Rattle.and_circles.specs.declared.following.Step.{Step}
use Rattle.and_circles.specs.declared.following.Step.TheVariants.{Ended, Onward, Half}

-- the part of a structure at a place
abbrev pub argument_part : NamedProgram → NodeNo → (base place : ℕ) → Ref
argument_part P node base place = part_at P base (get_or (arguments_at P.skeleton node.0) place 0)

-- where a path goes on from a cell that has this word
abbrev pub step_beyond : Ref → Step
step_beyond ref.Free = Ended
step_beyond (ref.Cell cell) = Onward (ref.Cell cell)
step_beyond (ref.Node node base) = Onward (ref.Node node base)
step_beyond (ref.Number pair) = Onward (ref.Number pair)
step_beyond (ref.Half bits) = Half

-- These are in range, and once each path from each of them ends, the goal holds.
pub record Suffice (P : NamedProgram) (row : List Ref) (floor : ℕ) (rest : List Ref) (goal : Type 0) : Type 0 where
  pub in_range : All (IsInRange P (length row)) rest
  pub owes : All (Ends P row floor false) rest → goal

-- What suffices for the goal was put on the list.
abbrev pub Puts : NamedProgram → List Ref → (floor : ℕ) → (goal : Type 0) → (old new : List Ref) → Type 0
Puts P row floor goal old new = (more : List Ref) × (new ≡ old ++ more) × Suffice P row floor more goal

-- What one place of a path leads to: at the reference that it goes on to, the path ends as it does here.
abbrev pub LeadsOn : NamedProgram → List Ref → (floor : ℕ) → (at : Ref) → (old new : List Ref) → Step → Type 0
LeadsOn P row floor at old new Ended = Puts P row floor (Ends P row floor false at) old new
LeadsOn P row floor at old new (Onward next) =
    IsInRange P (length row) next × Puts P row floor (Ends P row floor false next → Ends P row floor false at) old new
LeadsOn P row floor at old new Half = Unit {0}
