-- What a search has found of what it was told (this project's own).
use Rattle.std.specs.Prelude.{ℕ, ◌≡◌, Bool, false, leb, List, [], ◌∷◌, length, Option, Some, None}
use Rattle.std.specs.Option.{option_or}
use Rattle.and_model.specs.declared.goal
use Rattle.and_answers.specs.Kept.{listed}
use Rattle.and_answers.specs.declared.found.Found.{Found}
use Rattle.and_search_laws.specs.Found.{kept_count}
use Rattle.and_walk.specs.Walked.{IsFew}
use Rattle.and_traces.specs.Traces.{Event, Report, forked, cut, failed, ended, is_fork, is_failed, count_of, entries_of}

-- the cut that an event tells, if it tells one
abbrev pub cut_of : Event → Option goal.Cut.Cut
cut_of (forked cs) = None
cut_of (cut x) = Some x
cut_of failed = None
cut_of (ended code outcome) = None

-- the first cut that is told
abbrev pub first_cut : List Report → Option goal.Cut.Cut
first_cut [] = None
first_cut (r ∷ reports) = option_or (cut_of r.event) (first_cut reports)

-- It found the entries that it was told, and the first cut, and counted the forks and the failures.
pub record HasFound (found : Found) (seen : List Report) : Type 0 where
  pub entries : listed found ≡ entries_of seen
  pub forks : found.forks ≡ kept_count (count_of is_fork seen)
  pub failed : found.failed ≡ kept_count (count_of is_failed seen)
  pub cut : found.cut ≡ first_cut seen

-- There are as many entries as are asked for, if any number is.
abbrev pub is_enough : Option ℕ → Found → Bool
is_enough None found = false
is_enough (Some count) found = leb count (length (listed found))

-- So it found, and no more entries than are asked for.
abbrev pub FindsSoFar : Option ℕ → Found → List Report → Type 0
FindsSoFar most found seen = HasFound found seen × IsFew most found
