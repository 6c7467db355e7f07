-- What was loaded is a loaded program, and what is resolved in it.
use Rattle.std.proofs.Common.{ℕ, ◌+◌, ◌≡◌, ◌≤◌, length, sym, subst, arith}
use Rattle.and_model.specs.OwnVariables.{HaveOwnVariables}
use Rattle.and_model.specs.declared.limits.TheConstants.{MAX_NODES}
use Rattle.and_model.specs.declared.numbers.NodeNo.{NodeNo}
use Rattle.and_model.specs.declared.reference.Ref.{Ref}
use Rattle.and_program.specs.Skeletons.{IsSkeleton, AllFall}
use Rattle.and_program.specs.Loaded.{program_of, skeleton_of, shape_at}
use Rattle.and_program.specs.Shown.{resolved}
use Rattle.and_program.specs.declared.loaded.Loaded.{Loaded}
use Rattle.and_cells.specs.Ranges.{NamedProgram}
use Rattle.and_cells.specs.Parts.{named, part_at}
use Rattle.and_branch_laws.specs.OwnVariables.{IsLoaded}

pub loaded_is : (N : NamedProgram) (l : Loaded) → N ≡ named l → IsSkeleton (skeleton_of l) (program_of l) → HaveOwnVariables (program_of l)
    → length (skeleton_of l).nodes ≤ MAX_NODES + 1 → IsLoaded N
loaded_is N l same skeleton own few =
    let loaded : IsLoaded (named l) = record { skeleton = skeleton; own = own; written = omega arith; few = few } in
    subst IsLoaded (sym same) loaded

-- what is resolved for a node is where it is found
pub resolved_is : (N : NamedProgram) (l : Loaded) (node : NodeNo) (base : ℕ) (r : Ref) → N ≡ named l
    → r ≡ resolved (shape_at (skeleton_of l) node.0) node base → r ≡ part_at N base node.0
resolved_is N l node base r same e = subst (λ (Q : NamedProgram). r ≡ part_at Q base node.0) (sym same) e

pub falls_in : (N : NamedProgram) (l : Loaded) → N ≡ named l → AllFall 0 (skeleton_of l).nodes → AllFall 0 N.skeleton.nodes
falls_in N l same fall = subst (λ (Q : NamedProgram). AllFall 0 Q.skeleton.nodes) (sym same) fall
