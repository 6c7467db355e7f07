-- Tasks of which some goals of arithmetic were run (this project's own).
use Rattle.std.specs.Prelude.{List, [], ◌∷◌}
use Rattle.and_model.specs.Programs.{Arithmetic}
use Rattle.and_branch_laws.specs.Tasks.{Task, run}

-- Leaves all gone left: the tasks are left, in their order, when these goals of arithmetic are gone, in the order in
-- which they stood.
pub data Leaves : List Task → List Arithmetic → List Task → Type 0 where
  over : Leaves [] [] []
  stays : (t : Task) (ts : List Task) (gone : List Arithmetic) (us : List Task) → Leaves ts gone us
      → Leaves (t ∷ ts) gone (t ∷ us)
  goes : (a : Arithmetic) (ts : List Task) (gone : List Arithmetic) (us : List Task) → Leaves ts gone us
      → Leaves (run a ∷ ts) (a ∷ gone) us
