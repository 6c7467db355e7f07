-- Branches that are looked over for work (this project's own).
use Rattle.std.specs.Prelude.{◌≡◌, false}
use Rattle.and_cells.specs.Ranges.{NamedProgram}
use Rattle.and_branch.specs.Branches.{Held, SameKey}
use Rattle.and_branch.specs.Parts.{held_of}
use Rattle.and_phase.specs.Leading.{LeadsOn}
use Rattle.and_phase.specs.declared.sighting.Sighted.{Sighted}
use Rattle.and_phase.specs.declared.sighting.Sighted.TheVariants.{Two, NotTwo}

-- The branch stands for the same key, and for a tree to which Steps lead.
pub record IsLater (P : NamedProgram) (old new : Held) : Type 0 where
  pub same : SameKey old new
  pub steps : LeadsOn P old new

-- So does the branch that was looked over. Where it was taken apart, it is not failed.
abbrev pub IsSighted : {N : Type 0} → NamedProgram → Held → Sighted N → Type 0
IsSighted P old (Two parts) = IsLater P old (held_of parts) × (parts.is_failed ≡ false)
IsSighted P old (NotTwo b) = IsLater P old b
