-- Codes that are kept as what each has behind the one before it.
use Rattle.std.specs.Prelude.{ℕ, ◌≡◌, ◌≢◌, ◌<◌, ◌≤◌, List, [], ◌∷◌, length, take, drop}

-- Behind one beginning, the second of two endings comes no sooner than the first in the lexicographic order, and they
-- part at once.
abbrev pub MayFollow : List ℕ → List ℕ → Type 0
MayFollow [] rest = Unit {0}
MayFollow (one ∷ others) [] = ⊥
MayFollow (one ∷ others) (other ∷ rest) = one < other

-- Two endings part at once, or one of them is empty.
abbrev pub ArePartedAtOnce : List ℕ → List ℕ → Type 0
ArePartedAtOnce [] rest = Unit {0}
ArePartedAtOnce (one ∷ others) [] = Unit {0}
ArePartedAtOnce (one ∷ others) (other ∷ rest) = one ≢ other

-- Two lists have so many first items in common, and no more.
pub record HaveInCommon (one other : List ℕ) (count : ℕ) : Type 0 where
  pub within_one : count ≤ length one
  pub within_other : count ≤ length other
  pub same : take count one ≡ take count other
  pub parted : ArePartedAtOnce (drop count one) (drop count other)

-- The first so many items of two lists are the same.
pub record BeginAlike (one other : List ℕ) (count : ℕ) : Type 0 where
  pub within_one : count ≤ length one
  pub within_other : count ≤ length other
  pub same : take count one ≡ take count other
