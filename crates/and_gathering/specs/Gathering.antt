-- What all workers of a phase did, put together (this project's own).
use Rattle.std.specs.Prelude.{ℕ, ◌+◌, ◌≡◌, ◌≢◌, ◌<◌, ◌≤◌, ◌⊎◌, true, false, List, [], ◌∷◌, ◌++◌, map, flat_map}
use Rattle.std.specs.Prelude.{length, reverse, slice_get, Option, Some, None, All, Contains, IsPermutation}
use Rattle.and_model.specs.Programs.{Program, Item, clause_at, clause_weight}
use Rattle.and_model.specs.declared.goal.Goal.{Goal}
use Rattle.and_model.specs.declared.goal.Reduction.{Reduction}
use Rattle.and_branch_laws.specs.Kept.{goal_of}
use Rattle.and_branch_laws.specs.Reducing.{body_goals}
use Rattle.and_gathering.specs.declared.links.Taken.{Taken}
use Rattle.and_gathering.specs.declared.links.Taken.TheVariants.{Reduced, Ran}
use Rattle.and_gathering.specs.declared.links.Links.{Links}
use Rattle.and_gathering.specs.declared.gathering.Gathered.{Gathered}
use Rattle.and_gathering.specs.declared.gathering.Next.{Next}
use Rattle.and_gathering.specs.declared.gathering.Walk.{Walk}
use Rattle.and_handed.specs.declared.told.Cause.TheVariants.{NoCandidate}
use Rattle.and_handed.specs.declared.told.Ran as run
use Rattle.and_handed.specs.declared.told.Reduced as making
use Rattle.and_handed.specs.declared.told.HandedOn.{HandedOn}

abbrev pub goal_taken : Taken → Goal
goal_taken (Reduced goal reduction) = goal
goal_taken (Ran goal) = goal

-- what a worker took: the calls that it reduced,
abbrev pub made_by : HandedOn → List Taken
made_by told = map (λ (m : making.Reduced). Reduced m.goal m.reduction) told.made.items

-- and the arithmetic that it ran
abbrev pub ran_by : HandedOn → List Taken
ran_by told = map (λ (r : run.Ran). Ran r.goal) told.ran.items

-- the calls that all workers reduced
abbrev pub all_made : List HandedOn → List Taken
all_made tolds = flat_map made_by tolds

abbrev pub all_ran : List HandedOn → List Taken
all_ran tolds = flat_map ran_by tolds

-- AreTiled P node rs end: the first reduction stands at the node, each other one where the frame of the one before it
-- ends, and the last frame ends there.
abbrev pub AreTiled : Program → (node : ℕ) → List Reduction → (end : ℕ) → Type 0
AreTiled P node [] end = end ≡ node
AreTiled P node (r ∷ rs) end = (r.node ≡ node) × AreTiled P (node + clause_weight (clause_at P r.clause.0)) rs end

-- the goals of the body of a reduction's clause
abbrev pub goals_of_body : Program → Reduction → List Goal
goals_of_body P r = map goal_of (body_goals r.clause.0 r.node [] 0 (clause_at P r.clause.0).body)

-- Walks P goals left met: of these goals, in order, some were taken and some are left. In the place of a call that
-- was reduced stand the goals of the body, at a larger node. What was met so is listed too.
pub data Walks (P : Program) : List Goal → (left : List Goal) → (met : List Taken) → Type 0 where
  over : Walks P [] [] []
  stays : (g : Goal) (gs left : List Goal) (met : List Taken) → Walks P gs left met → Walks P (g ∷ gs) (g ∷ left) met
  ran : (g : Goal) (gs left : List Goal) (met : List Taken) → Walks P gs left met → Walks P (g ∷ gs) left (Ran g ∷ met)
  reduced : (g : Goal) (r : Reduction) (gs left : List Goal) (met : List Taken) → g.node < r.node
      → r.clause.0 ≤ length P.clauses
      → Walks P (goals_of_body P r ++ gs) left met → Walks P (g ∷ gs) left (Reduced g r ∷ met)

-- The goal is one of these, or stands in the frame of one of the reductions.
abbrev pub IsThere : List Goal → List Reduction → Goal → Type 0
IsThere goals made g = Contains goals g
    ⊎ ((r : Reduction) × Contains made r × (r.node ≡ g.node) × (r.clause ≡ g.clause) × (g.base ≡ g.node))

-- These are the reductions of the calls that were taken.
abbrev pub AreOf : List Taken → List Reduction → Type 0
AreOf [] rs = rs ≡ []
AreOf (Reduced g r ∷ taken) [] = ⊥
AreOf (Reduced g r ∷ taken) (s ∷ rs) = (s ≡ r) × AreOf taken rs
AreOf (Ran g ∷ taken) rs = ⊥

-- IsGathered P goals used limit tolds g: what the workers did on a tree of that weight, with these goals. Each
-- reduction that a worker made is one of the steps, and each step and all arithmetic was met in the tree, once.
pub record IsGathered (P : Program) (goals : List Goal) (used limit : ℕ) (tolds : List HandedOn)
    (g : Gathered) : Type 0 where
  pub tiled : AreTiled P used g.made g.end
  pub fits : g.end ≤ limit
  pub steps : List Taken
  pub made : IsPermutation (all_made tolds) steps
  pub reductions : AreOf steps g.made
  pub met : List Taken
  pub walks : Walks P goals g.goals.items met
  pub all : IsPermutation (steps ++ all_ran tolds) met
  pub pairs : g.pairs ≡ flat_map (λ (t : HandedOn). t.pairs) tolds
  pub failed : g.failed ≡ true → (t : HandedOn) × Contains tolds t × (t.cause ≢ None)
  pub lives : g.failed ≡ false → All (λ (t : HandedOn). t.cause ≡ None) tolds
  pub there : All (λ (t : HandedOn). (goal : Goal) → t.cause ≡ Some (NoCandidate goal)
      → IsThere goals g.made goal) tolds
  pub unspoilt : All (λ (t : HandedOn). t.is_spoilt ≡ false) tolds

-- an item of a body as a goal, if it is a call or arithmetic
abbrev pub goals_of_item : (clause node place : ℕ) → Item → List Goal
goals_of_item c n i item = map goal_of (body_goals c n [] i (item ∷ []))

-- what a list of places still has
abbrev pub present : List (Option Taken) → List Taken
present [] = []
present (None ∷ places) = present places
present (Some t ∷ places) = t ∷ present places

-- what was taken and not met yet
abbrev pub unmet : Links → List Taken
unmet links = present links.taken.items

-- The reduction is the next one of the worker, and stands at the node.
pub record IsNext (tolds : List HandedOn) (places : List ℕ) (node : ℕ) (next : Next) : Type 0 where
  pub told : HandedOn
  pub place : ℕ
  pub who : slice_get tolds next.worker ≡ Some told
  pub from : slice_get places next.worker ≡ Some place
  pub step : slice_get (made_by told) place ≡ Some (Reduced next.goal next.reduction)
  pub here : next.reduction.node ≡ node

-- What was taken is followed: the goals of the body of a reduction, which stands behind the call's node, come onto
-- the stack.
abbrev pub IsFollowed : Program → Taken → (old new : List Goal) → Type 0
IsFollowed P (Ran g) old new = new ≡ old
IsFollowed P (Reduced g r) old new =
    (g.node < r.node) × (r.clause.0 ≤ length P.clauses) × (reverse new ≡ goals_of_body P r ++ reverse old)

-- A goal was met on a walk: it is left, or what was taken of it is followed.
pub data IsMet (P : Program) (goal : Goal) (old new : Walk) : Type 0 where
  kept : unmet new.links ≡ unmet old.links → new.stack.items ≡ old.stack.items
      → new.left.items ≡ old.left.items ++ goal ∷ []
      → new.found ≡ old.found → IsMet P goal old new
  followed : (t : Taken) → goal_taken t ≡ goal → IsPermutation (unmet old.links) (t ∷ unmet new.links)
      → IsFollowed P t old.stack.items new.stack.items → new.left.items ≡ old.left.items → new.found ≡ old.found + 1
      → IsMet P goal old new
