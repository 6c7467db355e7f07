-- How the children of a fork are made.
use Rattle.std.specs.Prelude.{ℕ, ◌≡◌, List, [], ◌∷◌, ◌++◌, length, take, None, Some}
use Rattle.and_model.specs.Trees.{QueryTree}
use Rattle.and_model.specs.Reached.{Split}
use Rattle.and_model.specs.declared.goal.Goal.{Goal}
use Rattle.and_model.specs.declared.reference.Ref.{Ref}
use Rattle.and_cells.specs.Ranges.{NamedProgram}
use Rattle.and_reduction.specs.Trails.{Noted}
use Rattle.and_branch_parts.specs.Branches.{Held, IsBranchOf}
use Rattle.and_branch_parts.specs.Children.{Fork, AreChildren}

-- the fork from this clause on
abbrev pub with_next : Fork → (clause : ℕ) → (rest : List ℕ) → Fork
with_next f c rest = record { parent = f.parent; goal = f.goal; longer = f.longer; clauses = c ∷ rest }

-- A child by this clause can come next.
pub record CanBeMade (P : NamedProgram) (f : Fork) (clause : ℕ) : Type 0 where
  pub rest : List ℕ
  pub tree : QueryTree P.program
  pub children : AreChildren P (with_next f clause rest) tree

-- The branch is the child by this clause.
pub record IsMade (P : NamedProgram) (f : Fork) (clause : ℕ) (b : Held) : Type 0 where
  pub key : b.key ≡ f.longer ++ clause ∷ []
  pub limit : b.limit ≡ f.parent.limit
  pub stands : (rest : List ℕ) (t u : QueryTree P.program) → AreChildren P (with_next f clause rest) t
      → Split t clause u → IsBranchOf P b u

-- nothing is noted of a row,
abbrev pub nothing_noted : Noted
nothing_noted = record { mark = None; cells = [] }

-- or what will be set of this one
abbrev pub noted_from : List Ref → Noted
noted_from row = record { mark = Some (length row); cells = [] }

-- The branch is the beginning of the child by this clause: the branch that was forked, with the child's key, where
-- this goal is to be taken. What is noted of its row is of no account.
pub record IsBegun (P : NamedProgram) (f : Fork) (clause : ℕ) (goal : Goal) (b : Held) : Type 0 where
  pub can : CanBeMade P f clause
  pub goal_is : goal ≡ f.goal
  pub branch : b ≡ record f.parent { key = f.longer ++ clause ∷ []; trail = b.trail }

-- The branch is the one that was forked again, but for the key, which begins with what was decided in that: so many
-- clauses. A child by this clause can come next, where this goal is to be taken. What is noted is of no account.
pub record IsAgain (P : NamedProgram) (f : Fork) (clause : ℕ) (goal : Goal) (decided : ℕ) (b : Held) : Type 0 where
  pub can : CanBeMade P f clause
  pub goal_is : goal ≡ f.goal
  pub begins : take decided b.key ≡ f.longer
  pub branch : b ≡ record f.parent { key = b.key; trail = b.trail }
