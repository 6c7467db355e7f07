-- The node of the next goal.
use Rattle.std.specs.Prelude.{ℕ, ◌≡◌, List, ◌∷◌}
use Rattle.and_model.specs.declared.goal.Goal.{Goal}
use Rattle.and_cells.specs.Ranges.{NamedProgram}
use Rattle.and_branch_laws.specs.Goals.{IsNodeOf}
use Rattle.and_branch_parts.specs.Branches.{Held}

-- The node is that of the branch's next goal, a call.
abbrev pub IsNextNode : NamedProgram → Held → (node : ℕ) → Type 0
IsNextNode P b node = (g : Goal) (rest : List Goal) → b.right ≡ g ∷ rest → IsNodeOf P b.row g node
