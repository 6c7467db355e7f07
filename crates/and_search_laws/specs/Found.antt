-- What a search of a program's query has found (this project's own).
use Rattle.std.specs.Prelude.{ℕ, ◌≡◌, ◌-◌, ◌^◌, ◌≤◌, ◌⊎◌, min, List, ◌++◌, length, Option, Some, None}
use Rattle.and_model.specs.Limits.{Cut, OverLimit}
use Rattle.and_model.specs.Listing.{Entry, Listing, Exhausted}
use Rattle.and_model.specs.Programs.{Program}
use Rattle.and_model.specs.Reached.{Numbers}
use Rattle.and_model.specs.Trees.{blank, query_agenda}
use Rattle.and_model.specs.declared.goal
use Rattle.and_branch_laws.specs.States.{IsCut}
use Rattle.and_code.specs.Written.{all_written}
use Rattle.and_answers.specs.Kept.{listed}
use Rattle.and_answers.specs.declared.found.Found.{Found}

-- a count as it is kept: it stays at the largest number of 64 bits
abbrev pub kept_count : ℕ → ℕ
kept_count n = min n (2 ^ 64 - 1)

-- Every larger limit has the same listing, and these are the numbers of forks and of failed branches.
pub record IsComplete (P : Program) (limit : ℕ) (found : Found) : Type 0 where
  pub exhausted : Exhausted P limit
  pub forks : ℕ
  pub failed : ℕ
  pub numbers : Numbers (blank {P = P} (query_agenda P)) forks failed
  pub forks_kept : found.forks ≡ kept_count forks
  pub failed_kept : found.failed ≡ kept_count failed

-- The search was not cut off, and is complete; or where it was cut off, the limit was met.
abbrev pub IsEnd : (P : Program) → ℕ → Found → Option goal.Cut.Cut → Type 0
IsEnd P limit found None = IsComplete P limit found
IsEnd P limit found (Some cut) = (over : Cut P) × IsCut (all_written cut.partial) cut.goal cut.clause.0 over
    × OverLimit P limit over

-- What was found is the listing within the limit, and the search ended so.
pub record IsFound (P : Program) (limit : ℕ) (found : Found) : Type 0 where
  pub listing : Listing P limit (listed found)
  pub end : IsEnd P limit found found.cut

-- What was found begins the listing within the limit, and there are so many entries at least.
pub record IsBeginning (P : Program) (limit count : ℕ) (found : Found) : Type 0 where
  pub rest : List Entry
  pub listing : Listing P limit (listed found ++ rest)
  pub enough : count ≤ length (listed found)

-- All was found, or so many of the first entries at least.
abbrev pub FindsFirst : Program → (limit count : ℕ) → Found → Type 0
FindsFirst P limit count found = IsFound P limit found ⊎ IsBeginning P limit count found
