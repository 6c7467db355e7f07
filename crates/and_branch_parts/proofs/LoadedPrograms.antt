-- What holds of the program that was loaded.
use Rattle.std.proofs.Common.{◌≡◌, ◌+◌, ◌≤◌, length, subst, sym, arith}
use Rattle.and_model.specs.OwnVariables.{HaveOwnVariables}
use Rattle.and_model.specs.declared.limits.TheConstants.{MAX_NODES}
use Rattle.and_program.specs.Loaded.{program_of, skeleton_of}
use Rattle.and_program.specs.Skeletons.{IsSkeleton}
use Rattle.and_program.specs.declared.loaded.Loaded.{Loaded}
use Rattle.and_cells.specs.Ranges.{NamedProgram}
use Rattle.and_cells.specs.Parts.{named}
use Rattle.and_branch_laws.specs.OwnVariables.{IsLoaded}

pub is_loaded : (P : NamedProgram) (l : Loaded) → P ≡ named l → IsSkeleton (skeleton_of l) (program_of l)
    → HaveOwnVariables (program_of l) → length (skeleton_of l).nodes ≤ MAX_NODES + 1 → IsLoaded P
is_loaded P l same skeleton own few =
    let there : IsLoaded (named l) = record { skeleton = skeleton; own = own; written = omega arith; few = few } in
    subst (λ (p : NamedProgram). IsLoaded p) (sym same) there
