-- Branches that have ended, and with what.
use Rattle.std.specs.Prelude.{◌⊎◌, ◌++◌, Contains, Bool, true, false}
use Rattle.and_model.specs.Lines.{Bytes}
use Rattle.and_model.specs.Listing
use Rattle.and_model.specs.Listing.{Ends}
use Rattle.and_model.specs.Trees.{QueryTree}
use Rattle.and_model.specs.declared.goal.Goal.{Goal}
use Rattle.and_cells.specs.Ranges.{NamedProgram}
use Rattle.and_branch_laws.specs.States.{StateOf, answer, floundered}
use Rattle.and_reduction.specs.Runs.{IsWaiting}
use Rattle.and_branch_parts.specs.Branches.{Held, IsBranchOf, IsArithmeticGoal}

-- The state is an answer, or floundered, and the arithmetic that is left waits.
pub record HasEnded (P : NamedProgram) (b : Held) : Type 0 where
  pub tree : QueryTree P.program
  pub branch : IsBranchOf P b tree
  pub state : StateOf P.program b.limit tree answer ⊎ StateOf P.program b.limit tree floundered
  pub at_rest : (g : Goal) → Contains (b.left ++ b.right) g → IsArithmeticGoal P g → IsWaiting P b.row g

-- The branch is floundered, or an answer.
abbrev pub EndsSo : (P : NamedProgram) (b : Held) → QueryTree P.program → (is_floundered : Bool) → Type 0
EndsSo P b t true = StateOf P.program b.limit t floundered
EndsSo P b t false = StateOf P.program b.limit t answer

-- The tree ends with this line.
pub record IsLineOf (P : NamedProgram) (b : Held) (t : QueryTree P.program) (text : Bytes) : Type 0 where
  pub answers : StateOf P.program b.limit t answer → Ends t (Listing.answer text)
  pub flounders : StateOf P.program b.limit t floundered → Ends t (Listing.floundered text)
