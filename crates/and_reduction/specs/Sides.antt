-- What the sides of a goal of arithmetic say of it, and what running it comes to.
use Rattle.std.specs.Prelude.{ℕ, ℤ, ◌≡◌, Bool, true, false, List, [], ◌∷◌}
use Rattle.and_model.specs.Terms.{Term, Terms, none, more}
use Rattle.and_model.specs.Arithmetic.{Relation, related}
use Rattle.and_model.specs.declared.goal.Goal.{Goal}
use Rattle.and_model.specs.declared.reference.Ref.{Ref}
use Rattle.and_cells.specs.Ranges.{NamedProgram}
use Rattle.and_cells.specs.Rows.{IsSound}
use Rattle.and_cells.specs.Seen.{Grows, AreFree}
use Rattle.and_branch_laws.specs.Sides.{AreOpen, AreCompared}
use Rattle.and_step_laws.specs.Assigning.{IsAssigned, IsRefused}
use Rattle.and_step_laws.specs.Runs.{IsWaiting, WaitsFor, HasRun, CannotHold}
use Rattle.and_reduction.specs.declared.running.Ran.{Ran}
use Rattle.and_reduction.specs.declared.running.Ran.TheVariants as run
use Rattle.and_guards.specs.declared.guards.Side.{Side}
use Rattle.and_guards.specs.declared.guards.Side.TheVariants.{Waits, NoValue, Number}

-- a comparison that came to this, where both sides are ground
abbrev pub compared : Bool → Ran
compared true = run.Done
compared false = run.False

-- what a comparison of these sides comes to
abbrev pub compared_with : Relation → Side → Side → Ran
compared_with o (Waits cell) side = run.Waits cell
compared_with o NoValue (Waits cell) = run.Waits cell
compared_with o NoValue NoValue = run.False
compared_with o NoValue (Number b) = run.False
compared_with o (Number a) (Waits cell) = run.Waits cell
compared_with o (Number a) NoValue = run.False
compared_with o (Number a) (Number b) = compared (related o a b)

-- The terms do not all read as ground ones in whatever row this one grows to while the cell is free.
abbrev pub AreOpenBy : NamedProgram → List Ref → (base : ℕ) → Terms → (cell : ℕ) → Type 0
AreOpenBy P row base ts cell = (later : List Ref) → Grows row later → IsSound P later → AreFree later (cell ∷ [])
    → AreOpen P later base ts

-- This is what a comparison of two terms comes to in the frame at the base.
abbrev pub IsComparison : NamedProgram → List Ref → (base : ℕ) → Relation → (a b : Term) → Ran → Type 0
IsComparison P row base o a b (run.Waits cell) =
    AreOpen P row base (more a (more b none)) × AreOpenBy P row base (more a (more b none)) cell
IsComparison P row base o a b run.Done = AreCompared P row base o a b true
IsComparison P row base o a b run.False = AreCompared P row base o a b false

-- This is what writing a number into a pair of words and settling a node with it comes to. It does not wait.
abbrev pub AssignsTo : NamedProgram → (old new : List Ref) → (base node pair : ℕ) → ℤ → Ran → Type 0
AssignsTo P old new base node pair z (run.Waits cell) = ⊥
AssignsTo P old new base node pair z run.Done = IsAssigned P old new base node pair z
AssignsTo P old new base node pair z run.False = IsRefused P old base node pair z

-- This is what running the goal comes to, and where it waits the cells are as before.
abbrev pub RunsTo : NamedProgram → (old new : List Ref) → Goal → Ran → Type 0
RunsTo P old new g (run.Waits cell) = IsWaiting P old g × WaitsFor P old g cell × (new ≡ old)
RunsTo P old new g run.Done = HasRun P old new g
RunsTo P old new g run.False = CannotHold P old g
