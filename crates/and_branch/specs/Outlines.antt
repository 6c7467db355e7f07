-- What is kept of a branch whose row another one has.
use Rattle.std.specs.Prelude.{◌≡◌, ◌++◌, length}
use Rattle.and_branch_parts.specs.Branches.{Held}
use Rattle.and_branch_parts.specs.Watching.{all_watched}
use Rattle.and_branch.specs.declared.outline.Outline.{Outline}
use Rattle.and_pending.specs.Pending.{goals_of}

-- The outline of a branch is all of it but its key, and of its row and its reductions how many they are.
pub record IsOutlineOf (b : Held) (o : Outline) : Type 0 where
  pub left : b.left ≡ goals_of o.goals.left
  pub right : b.right ≡ goals_of o.goals.right
  pub watches : b.watches ≡ all_watched (o.goals.left ++ o.goals.right)
  pub used : b.used ≡ o.used
  pub limit : b.limit ≡ o.limit
  pub is_failed : b.is_failed ≡ o.is_failed
  pub trail : b.trail ≡ o.trail
  pub words : length b.row ≡ o.words
  pub count : length b.reductions ≡ o.count

-- the branch with what stands in an outline, but for the trail
abbrev pub outlined : Held → Outline → Held
outlined b o = record b {
  left = goals_of o.goals.left;
  right = goals_of o.goals.right;
  watches = all_watched (o.goals.left ++ o.goals.right);
  used = o.used;
  limit = o.limit;
  is_failed = o.is_failed;
}
