-- Stacks of bodies that are gone through.
use Rattle.std.specs.Prelude.{ℕ, zero, suc, ◌+◌, ◌-◌, ◌<◌, ◌≤◌, ◌≡◌, Bool, true, false, cond, ◌&&◌, nat_eq, nat_le}
use Rattle.std.specs.Prelude.{List, [], ◌∷◌}
use Rattle.std.specs.Prelude.{map, reverse, length, sum_by, All, Option, Some, None}
use Rattle.and_model.specs.Terms.{Term}
use Rattle.and_model.specs.Programs
use Rattle.and_model.specs.Programs.{Program, clause_at}
use Rattle.and_model.specs.Reductions.{Reduction}
use Rattle.and_model.specs.declared.goal
use Rattle.and_program.specs.Skeletons.{NodeItem, call, equal, is, compare, fail}
use Rattle.and_branch_laws.specs.Visits
use Rattle.and_branch_laws.specs.Visits.{Decides, item_visited}
use Rattle.and_code.specs.declared.visiting.Visit.{Visit}

-- a visit as the definitions have it
abbrev pub visit_of : Visit → Visits.Visit
visit_of v = record { node = v.node; clause = v.clause.0; item = v.item }

-- the visits of a stack, of which the last is gone through first
abbrev pub visits_of : List Visit → List Visits.Visit
visits_of vs = map visit_of (reverse vs)

-- a visit, if there is one
abbrev pub visited : Option Visit → List Visits.Visit
visited None = []
visited (Some v) = visit_of v ∷ []

-- A visit and those that wait behind it. Where there is none, none waits.
abbrev pub waiting : List Visit → Option Visit → List Visits.Visit
waiting vs None = []
waiting vs (Some v) = visit_of v ∷ visits_of vs

-- The clause is the program's, and the item that is visited is a call of its body.
pub record IsAtCall (P : Program) (v : Visits.Visit) : Type 0 where
  pub named : v.clause ≤ length P.clauses
  pub low : v.item < length (clause_at P v.clause).body
  pub goal : Term
  pub calls : item_visited P v ≡ Programs.call goal

-- So are all of them.
abbrev pub AreAtCalls : Program → List Visits.Visit → Type 0
AreAtCalls P vs = All (IsAtCall P) vs

-- ---- How many turns are left at most

-- each reduction stands at a place behind that of its call
abbrev pub AreBehind : List Reduction → Type 0
AreBehind rs = All (λ (r : Reduction). r.parent < r.node) rs

-- the reduction takes a call at this node, of this item or a later one
abbrev pub takes_from : (node item : ℕ) → Reduction → Bool
takes_from n i r = nat_eq r.parent n && nat_le i r.item

-- The turns below a node, from an item of its body on: one for each clause that takes a call there, and those below
-- it. (The fuel is how many places there may be, one below the other.)
abbrev pub turns_below : List Reduction → (fuel node item : ℕ) → ℕ
turns_below rs zero n i = 0
turns_below rs (suc fuel) n i =
    sum_by (λ (r : Reduction). cond (takes_from n i r) (1 + turns_below rs fuel r.node 0) 0) rs

-- a number above those of all places
abbrev pub above_all : List Reduction → ℕ
above_all rs = sum_by (λ (r : Reduction). r.node + 1) rs

-- the turns that a visit takes at most
abbrev pub turns_of : List Reduction → Visits.Visit → ℕ
turns_of rs v = turns_below rs (above_all rs - v.node) v.node v.item

-- those of all visits
abbrev pub turns_left : List Reduction → List Visits.Visit → ℕ
turns_left rs vs = sum_by (turns_of rs) vs

-- ---- One step

-- Whatever the reductions, the clauses that the new visits find are those that the old ones find, and no turns are
-- added.
pub record LeadsTo (P : Program) (old new : List Visits.Visit) : Type 0 where
  pub found : (rs : List Reduction) (cs : List ℕ) → Decides P rs new cs → Decides P rs old cs
  pub turns : (rs : List Reduction) → turns_left rs new ≤ turns_left rs old

-- The clauses of the reductions are the program's.
abbrev pub HaveClauses : Program → List goal.Reduction.Reduction → Type 0
HaveClauses P rs = All (λ (r : goal.Reduction.Reduction). r.clause.0 ≤ length P.clauses) rs
