-- Goals that are copied with their cells, which stand at the end of another list then.
use Rattle.std.specs.Prelude.{ℕ, ◌≡◌, List, ◌++◌, All}
use Rattle.and_pending.specs.Pending.{IsWithin, watched_in, all_watched_in}
use Rattle.and_pending.specs.declared.pending.PendingGoal.{PendingGoal}

-- The goal is the one whose cells stand in the first list, with cells that stand in the last.
pub record IsCopied (from : List ℕ) (p : PendingGoal) (old new : List ℕ) (copy : PendingGoal) : Type 0 where
  pub gained : List ℕ
  pub cells : new ≡ old ++ gained
  pub within : IsWithin new copy
  pub same : watched_in new copy ≡ watched_in from p

-- These goals were put behind the others.
pub record AreCopied (from : List ℕ) (ps : List PendingGoal) (old : List ℕ) (before : List PendingGoal) (new : List ℕ)
    (after : List PendingGoal) : Type 0 where
  pub gained : List ℕ
  pub cells : new ≡ old ++ gained
  pub copies : List PendingGoal
  pub list : after ≡ before ++ copies
  pub within : All (IsWithin new) copies
  pub same : all_watched_in new copies ≡ all_watched_in from ps
