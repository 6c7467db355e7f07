-- What a tree knows of a branch that is split (this project's own).
use Rattle.std.specs.Prelude.{ℕ, List}
use Rattle.and_histories.specs.PlainTree.{Key}

-- the key of the branch, that of each child but for its clause, and the clauses
pub record Fork : Type 0 where
  pub key : Key
  pub longer : Key
  pub clauses : List ℕ
