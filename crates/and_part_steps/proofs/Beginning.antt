-- A branch whose row is part of its whole one begins.
use Rattle.std.proofs.Common.{List, [], ◌∷◌, replicate, arith}
use Rattle.and_model.specs.Programs.{clause_weight}
use Rattle.and_model.specs.Trees.{query_agenda, blank}
use Rattle.and_model.specs.declared.reference.Ref.{Ref}
use Rattle.and_model.specs.declared.reference.Ref.TheVariants.{Free}
use Rattle.and_laws.proofs.Order.{clause_weighs}
use Rattle.and_laws.proofs.Ordered.{contains_none}
use Rattle.and_cells.specs.Ranges.{NamedProgram}
use Rattle.and_branch_laws.specs.OwnVariables.{IsLoaded}
use Rattle.and_branch_laws.specs.Variables.{placed}
use Rattle.and_branch_laws.specs.Settling.{Settled}
use Rattle.and_branch_laws.specs.Reducing.{body_equations, body_goals}
use Rattle.and_moved_laws.specs.KeptFrames.{NamesFrames}
use Rattle.and_moved_laws.specs.KeptParts.{PartKept}
use Rattle.and_moved_laws.proofs.Rooting.{root_kept}
use Rattle.and_reduction.specs.Writes.{SetsNodes}
use Rattle.and_part_steps.proofs.NewFrames.{new_frame_named}

-- The row names the query's frame, since all sides are nodes in it.
begun_names : (P : NamedProgram) → IsLoaded P → (new : List Ref) → SetsNodes P (replicate (clause_weight P.program.query) Free) new 0 []
    → NamesFrames P (record { base = 0; weight = clause_weight P.program.query } ∷ []) new
begun_names P loaded new sets =
    let skeleton = loaded.skeleton in
    let weighs = clause_weighs P.program.query in
    new_frame_named P [] [] new (clause_weight P.program.query) [] skeleton.0 (omega arith) (λ place. tt) (λ r at. absurd (contains_none r at)) sets

-- So the branch keeps the query's goals.
pub begun_kept : (P : NamedProgram) → IsLoaded P → (new : List Ref)
    → Settled P (replicate (clause_weight P.program.query) Free) new (body_equations (placed 0) P.program.query.body)
    → SetsNodes P (replicate (clause_weight P.program.query) Free) new 0 []
    → PartKept P [] (record { base = 0; weight = clause_weight P.program.query } ∷ []) new (body_goals 0 0 [] 0 P.program.query.body)
    (blank (query_agenda P.program))
begun_kept P loaded new settled sets = root_kept P loaded new settled (begun_names P loaded new sets)
