-- Which entries a listing within a limit has.
use Rattle.std.specs.Prelude.{ℕ, ◌≡◌, ◌≤◌}
use Rattle.and_model.specs.Programs.{Program}
use Rattle.and_model.specs.Trees.{QueryTree, code, weight}
use Rattle.and_model.specs.Listing.{Entry, Ends}

-- The entry has the code of a whole tree that weighs at most the limit, and its outcome.
abbrev pub IsWithin : (P : Program) → ℕ → Entry → Type 0
IsWithin P limit e = (u : QueryTree P) × (code u ≡ e.code) × Ends u e.outcome × (weight u ≤ limit)
