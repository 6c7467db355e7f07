-- What is judged of a branch in its cells.
use Rattle.std.specs.Prelude.{ℕ, ◌+◌, ◌≤◌, ◌≡◌, ◌≢◌, true, List, [], ◌∷◌, length, Contains}
use Rattle.and_model.specs.Terms.{Path, Terms, are_ground}
use Rattle.and_model.specs.Programs.{arithmetic, Arithmetic, clause_at, clause_weight}
use Rattle.and_model.specs.Closure.{needs}
use Rattle.and_model.specs.Candidates.{Candidate}
use Rattle.and_model.specs.Stands.{Framed, term_of}
use Rattle.and_model.specs.declared.goal.Goal.{Goal}
use Rattle.and_model.specs.declared.reference.Ref.{Ref}
use Rattle.and_cells.specs.Ranges.{NamedProgram}
use Rattle.and_cells.specs.Meaning.{equations_of}
use Rattle.and_branch_laws.specs.Variables.{placed}
use Rattle.and_branch_laws.specs.Running.{AreRead}
use Rattle.and_branch_laws.specs.Kept.{item_at, IsCall}

-- a frame in which no cell is
abbrev pub outside : Path
outside = 0 ∷ []

-- The clause is a candidate of the goal in the cells: under the equations of the row, the call in its frame's cells,
-- and the clause in a frame of its own.
abbrev pub CandidateInCells : NamedProgram → List Ref → Goal → ℕ → Type 0
CandidateInCells P row g c = Candidate P.program (equations_of P row) outside (placed g.base (term_of P.program g)) c

-- it is the only one
abbrev pub SoleInCells : NamedProgram → List Ref → Goal → ℕ → Type 0
SoleInCells P row g c = CandidateInCells P row g c × ((d : ℕ) → CandidateInCells P row g d → d ≡ c)

-- with its frame the row has at most as many words as the limit
abbrev pub FitsBehind : NamedProgram → ℕ → List Ref → ℕ → Type 0
FitsBehind P limit row c = length row + clause_weight (clause_at P.program c) ≤ limit

-- No goal of arithmetic that is kept reads as ground terms.
abbrev pub NoneIsGround : NamedProgram → List Ref → List Framed → Type 0
NoneIsGround P row kept =
    (f : Framed) (a : Arithmetic) (us : Terms) → Contains kept f → item_at P.program f.goal ≡ arithmetic a
    → AreRead P row f.goal.base (needs a) us → are_ground us ≡ true → ⊥

-- Each call that is kept has a candidate.
abbrev pub EachHasOne : NamedProgram → List Ref → List Framed → Type 0
EachHasOne P row kept = (f : Framed) → Contains kept f → IsCall P.program f → (c : ℕ) × CandidateInCells P row f.goal c

-- Each has two.
abbrev pub EachHasTwo : NamedProgram → List Ref → List Framed → Type 0
EachHasTwo P row kept = (f : Framed) → Contains kept f → IsCall P.program f → (c : ℕ) × (d : ℕ) × (c ≢ d)
    × CandidateInCells P row f.goal c × CandidateInCells P row f.goal d

-- None of these goals is a call.
abbrev pub NoCall : NamedProgram → List Framed → Type 0
NoCall P kept = (f : Framed) → Contains kept f → IsCall P.program f → ⊥
