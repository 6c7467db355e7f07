-- How a search has ended so far (this project's own).
use Rattle.std.specs.Prelude.{ℕ, ◌≡◌, Bool, true, false, Option, Some, None}
use Rattle.and_model.specs.Limits.{Cut, OverLimit}
use Rattle.and_model.specs.Programs.{Program}
use Rattle.and_model.specs.declared.goal
use Rattle.and_code.specs.Written.{all_written}
use Rattle.and_branch_laws.specs.States.{IsCut}
use Rattle.and_answers.specs.Kept.{listed}
use Rattle.and_answers.specs.declared.found.Found.{Found}
use Rattle.and_search_laws.specs.Found.{kept_count}

-- Nothing was cut off, and these are the counts; or something was, since the limit was met.
abbrev pub IsEndSoFar : (P : Program) → ℕ → Found → ℕ → ℕ → Bool → Option goal.Cut.Cut → Type 0
IsEndSoFar P limit found forks failed is_cut None =
    (is_cut ≡ false) × (found.forks ≡ kept_count forks) × (found.failed ≡ kept_count failed)
IsEndSoFar P limit found forks failed is_cut (Some cut) =
    (is_cut ≡ true) × (over : Cut P) × IsCut (all_written cut.partial) cut.goal cut.clause.0 over
    × OverLimit P limit over

-- All but the cut is the same.
pub record SameButCut (old new : Found) : Type 0 where
  pub entries : listed new ≡ listed old
  pub forks : new.forks ≡ old.forks
  pub failed : new.failed ≡ old.failed
