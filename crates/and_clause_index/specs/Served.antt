-- The clauses of a node that can be its candidates.
use Rattle.std.specs.Prelude.{ℕ, ◌<◌, List, All, AllPairs, Contains}
use Rattle.and_model.specs.Candidates.{Candidate}
use Rattle.and_model.specs.Programs.{Of}
use Rattle.and_model.specs.declared.numbers.ClauseNo.{ClauseNo}
use Rattle.and_model.specs.declared.reference.Ref.{Ref}
use Rattle.and_program.specs.Skeletons.{node_term}
use Rattle.and_cells.specs.Ranges.{NamedProgram}
use Rattle.and_cells.specs.Meaning.{equations_of}
use Rattle.and_branch_laws.specs.Judging.{outside}
use Rattle.and_branch_laws.specs.Variables.{placed}

-- the clause is a candidate of the node, read in the frame at the base
abbrev pub NodeHas : NamedProgram → List Ref → (node base : ℕ) → ClauseNo → Type 0
NodeHas P row node base c =
    Candidate P.program (equations_of P row) outside (placed base (node_term P.skeleton.nodes node)) c.0

-- The clauses are of the node's predicate, in textual order, and all its candidates are among them.
pub record AreServed (P : NamedProgram) (row : List Ref) (node base : ℕ) (clauses : List ClauseNo) : Type 0 where
  pub of : All (λ (c : ClauseNo). Of P.program (node_term P.skeleton.nodes node) c.0) clauses
  pub rise : AllPairs (λ (c d : ClauseNo). c.0 < d.0) clauses
  pub all : (c : ClauseNo) → NodeHas P row node base c → Contains clauses c
