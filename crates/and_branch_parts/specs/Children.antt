-- The children of a fork that are still to come.
use Rattle.std.specs.Prelude.{ℕ, ◌≡◌, ◌++◌, [], ◌∷◌, List, Option}
use Rattle.and_model.specs.Trees.{QueryTree, Open, decided}
use Rattle.and_model.specs.Reached.{Split}
use Rattle.and_model.specs.declared.goal.Goal.{Goal}
use Rattle.and_cells.specs.Ranges.{NamedProgram}
use Rattle.and_branch_laws.specs.States.{StateOf, fork}
use Rattle.and_branch_parts.specs.Branches.{Held, IsBranchOf, IsOpenGoal}

-- What contracts see of the children that are still to come: the branch that was forked, the goal that is taken by
-- each, the key of each but for the clause, and the clauses.
pub record Fork : Type 0 where
  pub parent : Held
  pub goal : Goal
  pub longer : List ℕ
  pub clauses : List ℕ

-- The branch stands for the tree, whose state is a fork by some clauses of its leftmost goal, of which these are the
-- last.
pub record AreChildren (P : NamedProgram) (f : Fork) (t : QueryTree P.program) : Type 0 where
  pub branch : IsBranchOf P f.parent t
  pub open_goal : Open t
  pub made : List ℕ
  pub cut : Option ℕ
  pub goal_is : IsOpenGoal P f.parent.reductions t open_goal f.goal
  pub state : StateOf P.program f.parent.limit t (fork open_goal (made ++ f.clauses) cut)
  pub longer : f.longer ≡ decided t

-- The branch was forked so.
pub record IsForkOf (b : Held) (g : Goal) (clauses : List ℕ) (f : Fork) : Type 0 where
  pub parent : f.parent ≡ b
  pub goal : f.goal ≡ g
  pub clauses_are : f.clauses ≡ clauses

-- The branch is the child by the next of the clauses: it stands for the split of the tree by this clause.
pub record IsChild (P : NamedProgram) (old new : Fork) (b : Held) : Type 0 where
  pub clause : ℕ
  pub next : old.clauses ≡ clause ∷ new.clauses
  pub parent : new.parent ≡ old.parent
  pub goal : new.goal ≡ old.goal
  pub longer : new.longer ≡ old.longer
  pub key : b.key ≡ old.longer ++ clause ∷ []
  pub limit : b.limit ≡ old.parent.limit
  pub stands : (t u : QueryTree P.program) → AreChildren P old t → Split t clause u → IsBranchOf P b u
