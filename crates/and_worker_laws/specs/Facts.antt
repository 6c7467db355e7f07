-- What each worker of a phase knows of its own acts, in the terms of the cells (this project's own).
use Rattle.std.specs.Prelude.{ℕ, ◌≤◌, ◌≡◌, ◌⊎◌, List, [], ◌∷◌, ◌++◌, length, All, Contains}
use Rattle.and_model.specs.Solutions.{Equation, Solvable, Entails}
use Rattle.and_model.specs.Programs.{call, arithmetic}
use Rattle.and_model.specs.Terms.{Term}
use Rattle.and_model.specs.Closure.{Known}
use Rattle.and_model.specs.Candidates.{Candidate}
use Rattle.and_model.specs.Stands.{term_of}
use Rattle.and_model.specs.declared.goal.Goal.{Goal}
use Rattle.and_cells.specs.Ranges.{NamedProgram}
use Rattle.and_branch_laws.specs.Variables.{EquationsSpeakOf, placed}
use Rattle.and_branch_laws.specs.Judging.{outside}
use Rattle.and_branch_laws.specs.Kept.{item_at}
use Rattle.and_worker_laws.specs.PhaseCells.{IsCell}
use Rattle.and_worker_laws.specs.Acts.{Act, takes, sets, fails, RunInCells, stated, asked_by, added_by, arithmetic_at}
use Rattle.and_worker_laws.specs.Acts.{IsThere, AreTaken}

-- Under some equations of cells that follow from these, all candidates of the call are among the clauses.
pub record AreAmong (P : NamedProgram) (known : List Equation) (g : Goal) (clauses : List ℕ) : Type 0 where
  pub cells : List Equation
  pub speak : EquationsSpeakOf IsCell cells
  pub follow : Entails known cells
  pub all : (c : ℕ) → Candidate P.program cells outside (placed g.base (term_of P.program g)) c → Contains clauses c

-- Some call, of the opening or of a body at whatever time, has no candidate.
pub record IsStuck (P : NamedProgram) (opening : List Goal) (whole : List Act) (known : List Equation) : Type 0 where
  pub goal : Goal
  pub there : IsThere P.program opening whole goal
  pub term : Term
  pub is_call : item_at P.program goal ≡ call term
  pub none : AreAmong P known goal []

-- what is known of the cells where these acts have been done: the opening's cells, and what was set
abbrev pub known_by : (cells : List Equation) → List Act → List Equation
known_by cells before = stated before ++ cells

-- what a worker had asked by then, and what is known
abbrev pub told_by : NamedProgram → (cells : List Equation) → List RunInCells → (worker : ℕ) → List Act → List Equation
told_by P cells runs w before = asked_by P.program w before ++ added_by w (length before) runs ++ known_by cells before

-- What a worker knows of an act of its own, before which these had been done.
-- A reduction: no clause but the one chosen was a candidate. A setting: it follows from what the worker had asked,
-- and from what was set before. A fail: what the worker had asked has no solution, or some call has no candidate.
abbrev pub Fact : NamedProgram → (opening : List Goal) → (cells : List Equation) → List RunInCells
    → (whole before : List Act) → Act → Type 0
Fact P opening cells runs whole before (takes w g r) = AreAmong P (known_by cells before) g (r.clause ∷ [])
Fact P opening cells runs whole before (sets w e) = Entails (told_by P cells runs w before) (e ∷ [])
Fact P opening cells runs whole before (fails w) =
    (Solvable (told_by P cells runs w before) → ⊥) ⊎ IsStuck P opening whole (known_by cells before)

-- The goal was there, and its terms were known.
pub record IsRun (P : NamedProgram) (opening : List Goal) (cells : List Equation) (before : List Act)
    (r : RunInCells) : Type 0 where
  pub there : IsThere P.program opening before r.goal
  pub is_arithmetic : item_at P.program r.goal ≡ arithmetic r.what
  pub known : Known (known_by cells before) (arithmetic_at r.goal.base r.what) r.terms

-- IsDone P opening used cells acts runs: what holds of all that was done in a phase which opened with these goals and
-- with cells that state these equations.
pub record IsDone (P : NamedProgram) (opening : List Goal) (used : ℕ) (cells : List Equation) (acts : List Act)
    (runs : List RunInCells) : Type 0 where
  pub taken : AreTaken P.program opening used acts
  pub facts : (front before : List Act) (a : Act) → acts ≡ front ++ a ∷ before → Fact P opening cells runs acts before a
  pub ran : (front before : List Act) (r : RunInCells) → acts ≡ front ++ before → Contains runs r
      → r.at ≡ length before → IsRun P opening cells before r
  pub in_time : All (λ (r : RunInCells). r.at ≤ length acts) runs
