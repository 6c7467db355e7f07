-- The next goal, reduced by a clause.
use Rattle.std.specs.Prelude.{ℕ, ◌≡◌, ◌+◌, ◌≤◌, Bool, true, false, List, [], ◌∷◌, ◌++◌, length, map, Contains}
use Rattle.and_model.specs.Terms.{Term}
use Rattle.and_model.specs.Programs.{Item, Of, call, clause_at, clause_weight}
use Rattle.and_model.specs.Trees.{QueryTree, Open, call_of, reduce}
use Rattle.and_model.specs.Reached.{ReachedBy}
use Rattle.and_model.specs.declared.goal.Goal.{Goal}
use Rattle.and_model.specs.declared.limits.TheConstants.{MAX_LIMIT}
use Rattle.and_program.specs.Skeletons
use Rattle.and_program.specs.Skeletons.{NodeItem}
use Rattle.and_cells.specs.Ranges.{NamedProgram}
use Rattle.and_branch_laws.specs.Kept.{goal_of, item_at}
use Rattle.and_branch_laws.specs.Reducing.{body_goals}
use Rattle.and_branch_parts.specs.Branches.{Held, Lives, IsBranchOf, IsOpenGoal}
use Rattle.and_branch_parts.specs.Origins.{KeepsBack}
use Rattle.and_pending.specs.Pending.{Pending, unwatched}
use Rattle.and_branch_parts.specs.Watching.{Watched}

-- The branch, which is not failed, has a next goal, a call. The clause is there, and there is room for its frame.
pub record HasNextCall (P : NamedProgram) (b : Held) (clause : ℕ) : Type 0 where
  pub tree : QueryTree P.program
  pub lives : Lives P b tree
  pub goal : Goal
  pub rest : List Goal
  pub next : b.right ≡ goal ∷ rest
  pub term : Term
  pub is_call : item_at P.program goal ≡ call term
  pub there : clause ≤ length P.program.clauses
  pub fits : b.used + clause_weight (clause_at P.program clause) ≤ MAX_LIMIT

-- Where the old branch keeps what a branch does of a tree, the new one stands for the tree in which the next goal,
-- where that is this open call, is reduced by the clause; if this tree is reached by the key that the new branch has.
pub record IsReduced (P : NamedProgram) (old new : Held) (c : ℕ) : Type 0 where
  pub stands : (t : QueryTree P.program) (o : Open t) (g : Goal) (rest : List Goal)
      (of_it : Of P.program (call_of t o) c)
      → Lives P old t → old.limit ≤ MAX_LIMIT → old.right ≡ g ∷ rest → IsOpenGoal P old.reductions t o g
      → ReachedBy P.program new.limit new.key (reduce t o c of_it) → IsBranchOf P new (reduce t o c of_it)

-- The item is a call or arithmetic.
abbrev pub is_goal_item : NodeItem → Bool
is_goal_item (Skeletons.call n) = true
is_goal_item (Skeletons.equal n m) = false
is_goal_item (Skeletons.is n m pair) = true
is_goal_item (Skeletons.compare r n m) = true
is_goal_item Skeletons.fail = false

-- These goals were put at the place of work, none of which is watched.
abbrev pub HasPut : List Goal → (old new : Pending) → Type 0
HasPut gs old new = new ≡ record { left = old.left; right = map unwatched gs ++ old.right }

-- Nothing was done but that the place of work was moved, or less is watched. What could be had again of the branch
-- still can be, or nothing is noted any longer.
pub record IsMoved (old new : Held) : Type 0 where
  pub key : new.key ≡ old.key
  pub limit : new.limit ≡ old.limit
  pub reductions : new.reductions ≡ old.reductions
  pub row : new.row ≡ old.row
  pub used : new.used ≡ old.used
  pub is_failed : new.is_failed ≡ old.is_failed
  pub goals : new.left ++ new.right ≡ old.left ++ old.right
  pub watches : (w : Watched) → Contains new.watches w → Contains old.watches w
  pub back : KeepsBack old new

-- The two goals are one item at one place.
abbrev pub IsSameItem : Goal → Goal → Type 0
IsSameItem g h = (g.node ≡ h.node) × (g.item ≡ h.item)

-- Such a goal is among these.
pub record HasItem (gs : List Goal) (h : Goal) : Type 0 where
  pub front : List Goal
  pub goal : Goal
  pub back : List Goal
  pub is : gs ≡ front ++ goal ∷ back
  pub same : IsSameItem goal h

-- the goals of a body from an item on, in the frame of the clause at the node
abbrev pub goals_from : (clause node item : ℕ) → List Item → List Goal
goals_from c n i items = map goal_of (body_goals c n [] i items)
