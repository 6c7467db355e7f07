-- What holds of each branch (this project's own).
use Rattle.std.specs.Prelude.{ℕ, ◌≡◌, ◌≤◌, ◌⊎◌, Bool, true, false, List, [], ◌∷◌, ◌++◌, map, filter, length, not}
use Rattle.std.specs.Prelude.{Contains}
use Rattle.and_model.specs.Trees.{QueryTree, Open, weight, path}
use Rattle.and_model.specs.Reached.{Dead, ReachedBy}
use Rattle.and_model.specs.Reductions.{Reduction, Makes, PlaceHas}
use Rattle.and_model.specs.Stands.{ClauseHas, Framed}
use Rattle.and_model.specs.Terms.{Path}
use Rattle.and_model.specs.Programs.{Item, call, equal, arithmetic, fail}
use Rattle.and_model.specs.declared.goal.Goal.{Goal}
use Rattle.and_model.specs.declared.limits.TheConstants.{MAX_LIMIT}
use Rattle.and_model.specs.declared.reference.Ref.{Ref}
use Rattle.and_cells.specs.Ranges.{NamedProgram}
use Rattle.and_branch_laws.specs.Views.{View}
use Rattle.and_branch_laws.specs.Kept.{Kept, item_at, goal_of}
use Rattle.and_reduction.specs.Trails.{Noted}
use Rattle.and_branch_parts.specs.Watching.{Watched, IsAsleep}

-- the item is arithmetic
abbrev pub is_arithmetic : Item → Bool
is_arithmetic (call g) = false
is_arithmetic (equal a b) = false
is_arithmetic (arithmetic a) = true
is_arithmetic fail = false

-- the goal is
abbrev pub IsArithmeticGoal : NamedProgram → Goal → Type 0
IsArithmeticGoal P g = is_arithmetic (item_at P.program g) ≡ true

-- of goals in preorder, those that are calls,
abbrev pub calls_of : NamedProgram → List Goal → List Goal
calls_of P gs = filter (λ g. not (is_arithmetic (item_at P.program g))) gs

-- and those that are arithmetic
abbrev pub arithmetic_of : NamedProgram → List Goal → List Goal
arithmetic_of P gs = filter (λ g. is_arithmetic (item_at P.program g)) gs

-- What a branch holds: what contracts see of it.
pub record Held : Type 0 where
  pub key : List ℕ
  -- its tree, written down
  pub reductions : List Reduction
  -- its cells
  pub row : List Ref
  -- its goals, calls and arithmetic among each other in preorder: those before the place where it is at work, and
  -- those from there on
  pub left : List Goal
  pub right : List Goal
  -- the weight used, and its limit
  pub used : ℕ
  pub limit : ℕ
  pub is_failed : Bool
  -- goals for which nothing need be done as long as certain cells are free
  pub watches : List Watched
  -- which words of the row were set since it was as the branch that this one was made of had it, if that is noted
  pub trail : Noted

-- the branch that is held so, with its calls and its arithmetic apart
abbrev pub view_of : NamedProgram → Held → View
view_of P b = record {
  key = b.key;
  reductions = b.reductions;
  row = b.row;
  goals = calls_of P (b.left ++ b.right);
  waiting = arithmetic_of P (b.left ++ b.right);
  used = b.used;
  limit = b.limit;
  is_failed = b.is_failed;
}

-- The branch keeps what a branch that is not failed keeps, these are its goals, and each that is watched is asleep.
pub record Lives (P : NamedProgram) (b : Held) (t : QueryTree P.program) : Type 0 where
  pub kept : List Framed
  pub keeps : Kept P b.reductions b.row kept t
  pub goals : map goal_of kept ≡ b.left ++ b.right
  pub long : length b.row ≡ b.used
  pub live : b.is_failed ≡ false
  pub asleep : (w : Watched) → Contains b.watches w → IsAsleep P b.row w

-- IsBranchOf P b t: the branch stands for the tree that its reductions make, which is reached by its key under its
-- limit. It is marked failed, and the tree is dead; or it keeps what a branch keeps.
pub record IsBranchOf (P : NamedProgram) (b : Held) (t : QueryTree P.program) : Type 0 where
  pub made : Makes P.program b.reductions t
  pub reached : ReachedBy P.program b.limit b.key t
  pub bounded : b.limit ≤ MAX_LIMIT
  pub used : weight t ≡ b.used
  pub state : ((b.is_failed ≡ true) × Dead t) ⊎ Lives P b t

-- it stands for some tree
abbrev pub IsBranch : NamedProgram → Held → Type 0
IsBranch P b = (t : QueryTree P.program) × IsBranchOf P b t

-- The key and the limit are the same.
pub record SameKey (old new : Held) : Type 0 where
  pub key : new.key ≡ old.key
  pub limit : new.limit ≡ old.limit

-- Of the tree that these reductions make, the open call is the goal.
pub record IsOpenGoal (P : NamedProgram) (rs : List Reduction) (t : QueryTree P.program) (o : Open t)
    (g : Goal) : Type 0 where
  pub frame : Path
  pub place : PlaceHas rs g.node frame
  pub clause : ClauseHas rs g.node g.clause.0
  pub path_is : path t o ≡ frame ++ g.item ∷ []
