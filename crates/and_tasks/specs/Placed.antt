-- Branches and forks as a choicepoint tree knows of them.
use Rattle.std.specs.Prelude.{ℕ, ◌≡◌}
use Rattle.and_model.specs.Trees.{QueryTree}
use Rattle.and_cells.specs.Ranges.{NamedProgram}
use Rattle.and_branch.specs.Branches.{Held, IsBranchOf}
use Rattle.and_branch.specs.Children as branches
use Rattle.and_tree.specs.Forked.{Fork}
use Rattle.and_team_laws.specs.Done.{IsJustified}

-- The branch stands for a tree under this limit. (So it is reached by the branch's key.)
pub record StandsWithin (P : NamedProgram) (limit : ℕ) (b : Held) : Type 0 where
  pub tree : QueryTree P.program
  pub branch : IsBranchOf P b tree
  pub limited : b.limit ≡ limit

-- The fork is of the leftmost goal of a Shut tree that is reached by its key, by exactly those of its candidates that
-- fit.
abbrev pub IsForkWithin : (P : NamedProgram) (limit : ℕ) → Fork → Type 0
IsForkWithin P limit f =
    IsJustified P.program limit (record { key = f.key; decided = f.longer; candidates = f.clauses })

-- what a tree knows of a fork
abbrev pub fork_of : branches.Fork → Fork
fork_of f = record { key = f.parent.key; longer = f.longer; clauses = f.clauses }
