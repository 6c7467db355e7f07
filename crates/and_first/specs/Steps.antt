-- A search for the first answers, step by step.
use Rattle.std.specs.Prelude.{ℕ, ◌<◌, ◌≤◌, ◌≡◌, ◌≢◌, List, length, take, Option, Some, None}
use Rattle.and_model.specs.Listing.{Entry}
use Rattle.and_model.specs.Programs.{Program}
use Rattle.and_answers.specs.Kept.{listed}
use Rattle.and_answers.specs.declared.found.Found.{Found}
use Rattle.and_first.specs.First.{IsStep, ListsFewer}
use Rattle.and_first.specs.declared.first.End.{End}
use Rattle.and_first.specs.declared.first.End.TheVariants.{Within, Complete, LimitMet}

-- A step is searched, and within each step before it there are fewer entries.
pub record IsSearched (P : Program) (limit count step : ℕ) : Type 0 where
  pub is_step : IsStep limit step
  pub before : (less : ℕ) → IsStep limit less → less < step → ListsFewer P count less

-- The step is the next one.
pub record IsNext (limit old new : ℕ) : Type 0 where
  pub is_step : IsStep limit new
  pub more : old < new
  pub none_between : (other : ℕ) → IsStep limit other → other < new → other ≤ old

-- how a search ended that found this within a step, if a larger one is not to be searched
abbrev pub EndsAt : Found → (step limit count : ℕ) → Option End → Type 0
EndsAt found step limit count None = (length (listed found) < count) × (step < limit) × (found.cut ≢ None)
EndsAt found step limit count (Some (Within reached)) = (reached ≡ step) × (count ≤ length (listed found))
EndsAt found step limit count (Some Complete) = (length (listed found) < count) × (found.cut ≡ None)
EndsAt found step limit count (Some LimitMet) =
    (length (listed found) < count) × (limit ≤ step) × (found.cut ≢ None)

-- the entries of which lines are told
abbrev pub first_entries : Found → (count : ℕ) → List Entry
first_entries found count = take count (listed found)
