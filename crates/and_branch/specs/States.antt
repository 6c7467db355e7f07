-- What is told of the state of a branch.
use Rattle.std.specs.Prelude.{ℕ, ◌≢◌, ◌⊎◌, ◌++◌, Contains, Option, Some, None}
use Rattle.and_model.specs.Trees.{QueryTree, Open}
use Rattle.and_model.specs.Limits.{at_goal}
use Rattle.and_model.specs.declared.goal.Cut.{Cut}
use Rattle.and_model.specs.declared.goal.Goal.{Goal}
use Rattle.and_cells.specs.Ranges.{NamedProgram}
use Rattle.and_branch_laws.specs.States as laws
use Rattle.and_branch_laws.specs.States.{StateOf, IsCut}
use Rattle.and_reduction.specs.Runs.{IsWaiting}
use Rattle.and_code.specs.Written.{all_written}
pub use Rattle.and_branch_parts.specs.Forking.{numbers}
use Rattle.and_branch_parts.specs.Branches.{Held, IsOpenGoal, IsArithmeticGoal}
use Rattle.and_branch.specs.declared.state.BranchState.{BranchState}
use Rattle.and_branch.specs.declared.state.BranchState.TheVariants.{Fork, Answer, Floundered, Failed, OverLimit}

-- The cut is that of the tree, this goal of it, and the clause.
abbrev pub IsCutAt : (P : NamedProgram) (t : QueryTree P.program) → Open t → ℕ → Cut → Type 0
IsCutAt P t o c cut = IsCut (all_written cut.partial) cut.goal cut.clause.0 (at_goal t o c)

-- So it is where some clause does not fit, and where none does there is no cut.
abbrev pub IsCutOf : (P : NamedProgram) (t : QueryTree P.program) → Open t → Option ℕ → Option Cut → Type 0
IsCutOf P t o None None = Unit {0}
IsCutOf P t o None (Some cut) = ⊥
IsCutOf P t o (Some c) None = ⊥
IsCutOf P t o (Some c) (Some cut) = IsCutAt P t o c cut

-- What is told is the state of the tree.
abbrev pub IsState : (P : NamedProgram) (b : Held) (t : QueryTree P.program) → BranchState → Type 0
IsState P b t (Fork goal clauses cut) =
    (o : Open t) × (first : Option ℕ) × IsOpenGoal P b.reductions t o goal × IsCutOf P t o first cut
    × StateOf P.program b.limit t (laws.fork o (numbers clauses) first)
IsState P b t Answer = StateOf P.program b.limit t laws.answer
IsState P b t Floundered = StateOf P.program b.limit t laws.floundered
IsState P b t Failed = StateOf P.program b.limit t laws.failed
IsState P b t (OverLimit cut) =
    (o : Open t) × (c : ℕ) × IsCutAt P t o c cut
    × (StateOf P.program b.limit t (laws.over_one o c) ⊎ StateOf P.program b.limit t (laws.over_all o c))

-- After any state but a failed one, the arithmetic that is left waits.
abbrev pub IsAtRest : NamedProgram → Held → BranchState → Type 0
IsAtRest P b s = s ≢ Failed → (g : Goal) → Contains (b.left ++ b.right) g → IsArithmeticGoal P g → IsWaiting P b.row g
