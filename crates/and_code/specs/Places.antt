-- Reductions that are linked by the nodes at which they take calls.
use Rattle.std.specs.Prelude.{ℕ, ◌+◌, ◌<◌, ◌≤◌, ◌≡◌, ◌≢◌, List, length, get_or, slice_get, Some, Contains}
use Rattle.and_model.specs.declared.goal.Reduction.{Reduction}
use Rattle.and_code.specs.declared.places.Links.{Links}

-- Of the reductions before the place `to`, the last that takes a call at the node stands just before `last`. Where
-- this is 0 there is none.
pub record IsLast (rs : List Reduction) (node to last : ℕ) : Type 0 where
  pub low : last ≤ to
  pub takes : (k : ℕ) (r : Reduction) → k + 1 ≡ last → slice_get rs k ≡ Some r → r.parent ≡ node
  pub none : (k : ℕ) (r : Reduction) → last ≤ k → k < to → slice_get rs k ≡ Some r → r.parent ≢ node

-- The first `to` reductions are linked: each node to the last that takes a call there, and each reduction to the one
-- before at its node.
pub record AreLinked (rs : List Reduction) (last before : List ℕ) (to : ℕ) : Type 0 where
  pub many : length before ≡ to
  pub at_node : (node : ℕ) → IsLast rs node to (get_or last node 0)
  pub at_place : (k : ℕ) (r : Reduction) → k < to → slice_get rs k ≡ Some r → IsLast rs r.parent k (get_or before k 0)

-- All are.
abbrev pub AreLinks : List Reduction → Links → Type 0
AreLinks rs links = AreLinked rs links.last.items links.before.items (length rs)

-- the reduction is one of them, and takes that call
abbrev pub IsFound : List Reduction → (node item : ℕ) → Reduction → Type 0
IsFound rs node item r = Contains rs r × (r.parent ≡ node) × (r.item ≡ item)

-- none of them takes it
abbrev pub IsMissing : List Reduction → (node item : ℕ) → Type 0
IsMissing rs node item = (r : Reduction) → Contains rs r → r.parent ≡ node → r.item ≡ item → ⊥

-- the reduction at the place takes it
abbrev pub IsPlace : List Reduction → (node item place : ℕ) → Type 0
IsPlace rs node item place = (r : Reduction) × (slice_get rs place ≡ Some r) × IsFound rs node item r

-- none from one place on and before another takes it
abbrev pub IsPassed : List Reduction → (node item from to : ℕ) → Type 0
IsPassed rs node item from to = (k : ℕ) (r : Reduction) → from ≤ k → k < to → slice_get rs k ≡ Some r
    → r.parent ≡ node → r.item ≢ item

-- None from a place on takes it, and the reduction just before that place takes a call at the node.
pub record IsLeft (rs : List Reduction) (node item from : ℕ) : Type 0 where
  pub low : from ≤ length rs
  pub takes : (k : ℕ) (r : Reduction) → k + 1 ≡ from → slice_get rs k ≡ Some r → r.parent ≡ node
  pub none : (k : ℕ) (r : Reduction) → from ≤ k → slice_get rs k ≡ Some r → r.parent ≡ node → r.item ≢ item
