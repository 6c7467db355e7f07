-- What looking at clauses does to an assignment.
use Rattle.std.specs.Prelude.{◌≡◌, ◌<◌, Bool, true, false}
use Rattle.and_model.specs.Programs.{Program}
use Rattle.and_modes.specs.Modes.{Assignment, WellModed}
use Rattle.and_modes.specs.Asked.{IsAtOrAbove}
use Rattle.and_modes.specs.Totals.{height}

-- An assignment that is at or above all well-moded ones stays so.
abbrev pub StaysAbove : Program → (old new : Assignment) → Type 0
StaysAbove P old new = (other : Assignment) → WellModed P other → IsAtOrAbove old other → IsAtOrAbove new other

-- Where nothing fell the assignment is as before, and where something fell it is lower.
abbrev pub FellOr : Bool → (old new : Assignment) → Type 0 → Type 0
FellOr true old new A = height new < height old
FellOr false old new A = (new ≡ old) × A
