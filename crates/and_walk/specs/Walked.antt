-- What a walk of a program's query is (this project's own).
use Rattle.std.specs.Prelude.{ℕ, ◌≡◌, ◌<◌, ◌≤◌, ◌⊎◌, Bool, true, false, length, Option, Some, None}
use Rattle.and_model.specs.Programs.{Program}
use Rattle.and_model.specs.Trees.{blank, query_agenda, weight}
use Rattle.and_model.specs.declared.goal
use Rattle.and_answers.specs.Kept.{listed}
use Rattle.and_answers.specs.declared.found.Found.{Found}
use Rattle.and_walk_laws.specs.Walks.{Walks}
use Rattle.and_search_laws.specs.Found.{kept_count}

-- A walk of the query finds this. Each of its forks is of the leftmost goal of a Shut tree, by all the candidates of
-- that goal in the order of the text, and those that fit are walked. Where nothing was cut off, its forks and
-- failures are counted; where a cut is told, something was.
pub record IsWalk (P : Program) (limit : ℕ) (found : Found) : Type 0 where
  pub forks : ℕ
  pub failed : ℕ
  pub is_cut : Bool
  pub walks : Walks P limit (blank (query_agenda P)) (listed found) forks failed is_cut
  pub counted : found.cut ≡ None → (is_cut ≡ false) × (found.forks ≡ kept_count forks)
      × (found.failed ≡ kept_count failed)
  pub cut_off : (cut : goal.Cut.Cut) → found.cut ≡ Some cut → is_cut ≡ true

-- The query was walked, unless it is too heavy by itself.
abbrev pub WasWalked : Program → ℕ → Found → Type 0
WasWalked P limit found = (limit < weight (blank {P = P} (query_agenda P))) ⊎ IsWalk P limit found

-- There are no more entries than are asked for, if any number is.
abbrev pub IsFew : Option ℕ → Found → Type 0
IsFew None found = Unit {0}
IsFew (Some count) found = length (listed found) ≤ count
