-- Goals that are still to be put.
use Rattle.std.specs.Prelude.{ℕ, ◌≡◌, ◌∷◌, ◌++◌, drop}
use Rattle.and_model.specs.Terms.{Term}
use Rattle.and_model.specs.Programs.{call, clause_at}
use Rattle.and_model.specs.declared.goal.Goal.{Goal}
use Rattle.and_cells.specs.Ranges.{NamedProgram}
use Rattle.and_branch_laws.specs.Goals.{IsNodeOf}
use Rattle.and_branch_laws.specs.Kept.{item_at}
use Rattle.and_branch_parts.specs.Branches.{Held}
use Rattle.and_branch_parts.specs.Next.{goals_from}
use Rattle.and_branch_parts.specs.Rounds.{IsAt}

-- the branch with the goals of a clause's body from an item on, in the frame at the node, before its next goals
abbrev pub with_body : NamedProgram → (clause node item : ℕ) → Held → Held
with_body P c n i b = record b { right = goals_from c n i (drop i (clause_at P.program c).body) ++ b.right }

-- the branch with this goal before its next ones
abbrev pub with_next : Goal → Held → Held
with_next g b = record b { right = g ∷ b.right }

-- With this goal, a call whose node this is, the branch is one that comes to it next.
pub record IsCallInHand (P : NamedProgram) (b : Held) (goal : Goal) (node : ℕ) : Type 0 where
  pub at : IsAt P (with_next goal b) goal
  pub term : Term
  pub is_call : item_at P.program goal ≡ call term
  pub node_is : IsNodeOf P b.row goal node
