-- Goals that are left, and watched (this project's own).
use Rattle.std.specs.Prelude.{ℕ, ◌≡◌, ◌≤◌, Bool, true, false, List, [], ◌∷◌, ◌++◌, map, length, Option, None, Some}
use Rattle.std.specs.Prelude.{slice_range, All}
use Rattle.and_model.specs.declared.goal.Goal.{Goal}
use Rattle.and_model.specs.declared.reference.Ref.{Ref}
use Rattle.and_cells.specs.Seen.{AreFree}
use Rattle.and_pending.specs.declared.watch.Watch.{Watch}
use Rattle.and_pending.specs.declared.watch.Watch.TheVariants.{Unwatched, One, Two, Listed}
use Rattle.and_pending.specs.declared.pending.PendingGoal.{PendingGoal}

-- A goal, and the cells by which it is watched, if it is.
pub record Watched : Type 0 where
  pub goal : Goal
  pub cells : Option (List ℕ)

-- Goals in their order: those before the place of work, and those from there on.
pub record Pending : Type 0 where
  pub left : List Watched
  pub right : List Watched

-- the goals
abbrev pub goals_of : List Watched → List Goal
goals_of ws = map (λ (w : Watched). w.goal) ws

-- a goal that is not watched
abbrev pub unwatched : Goal → Watched
unwatched g = record { goal = g; cells = None }

-- The goal is watched, and its cells are free in the row.
abbrev pub Sleeps : List Ref → Watched → Type 0
Sleeps row w = (cells : List ℕ) × (w.cells ≡ Some cells) × AreFree row cells

-- Goals at the place of work were passed over, all of which sleep in the row.
pub record HasPassedSleepers (row : List Ref) (old new : Pending) : Type 0 where
  pub passed : List Watched
  pub right : old.right ≡ passed ++ new.right
  pub left : new.left ≡ old.left ++ passed
  pub asleep : All (Sleeps row) passed

-- Goals before the place of work were gone back over, all of which sleep in the row: those behind one, before which
-- it is then, or all.
pub record HasGoneBack (row : List Ref) (old new : Pending) (there : Bool) : Type 0 where
  pub passed : List Watched
  pub asleep : All (Sleeps row) passed
  pub one : there ≡ true → (w : Watched) × (old.left ≡ new.left ++ w ∷ passed) × (new.right ≡ w ∷ passed ++ old.right)
  pub all : there ≡ false → (old.left ≡ passed) × (new ≡ record { left = []; right = passed ++ old.right })

-- the cells by which a goal is watched, of which some stand in a list, if it is
abbrev pub cells_at : List ℕ → Watch → Option (List ℕ)
cells_at list Unwatched = None
cells_at list (One cell) = Some (cell ∷ [])
cells_at list (Two one other) = Some (one ∷ other ∷ [])
cells_at list (Listed range) = Some (slice_range list range.first range.past)

-- a goal whose cells stand in a list,
abbrev pub watched_in : List ℕ → PendingGoal → Watched
watched_in cells p = record { goal = p.goal; cells = cells_at cells p.watch }

-- and such goals
abbrev pub all_watched_in : List ℕ → List PendingGoal → List Watched
all_watched_in cells ps = map (watched_in cells) ps

-- Where cells stand in the list, their range is one of it.
abbrev pub StandIn : List ℕ → Watch → Type 0
StandIn list Unwatched = Unit {0}
StandIn list (One cell) = Unit {0}
StandIn list (Two one other) = Unit {0}
StandIn list (Listed range) = (range.first ≤ range.past) × (range.past ≤ length list)

-- So it is with the goal's.
abbrev pub IsWithin : List ℕ → PendingGoal → Type 0
IsWithin list p = StandIn list p.watch

-- A goal that is watched so is by these cells.
pub record Watches (list cells : List ℕ) (watch : Watch) : Type 0 where
  pub stand : StandIn list watch
  pub same : cells_at list watch ≡ Some cells
