-- Copies that have the row and the reductions of a branch that was forked.
use Rattle.std.specs.Prelude.{◌≡◌}
use Rattle.and_branch_parts.specs.Branches.{Held}
use Rattle.and_branch_parts.specs.Making.{noted_from}

-- The branch has the row and the reductions of the first one, and notes what will be set of it.
pub record IsBackAt (first b : Held) : Type 0 where
  pub row : b.row ≡ first.row
  pub reductions : b.reductions ≡ first.reductions
  pub trail : b.trail ≡ noted_from first.row
