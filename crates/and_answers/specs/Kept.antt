-- What a run found, as a listing and an end.
use Rattle.std.specs.Prelude.{ℕ, ◌≡◌, ◌+◌, ◌-◌, ◌^◌, min, Bool, if◌then◌else◌, List, [], ◌∷◌, ◌++◌, map, Option, Some}
use Rattle.std.specs.Prelude.{None}
use Rattle.std.specs.Option.{option_or}
use Rattle.and_model.specs.Lines.{Bytes}
use Rattle.and_model.specs.Listing
use Rattle.and_model.specs.Output.{Finish, limit_met, complete, complete_with}
use Rattle.and_model.specs.declared.goal.Cut.{Cut}
use Rattle.and_answers.specs.declared.found.Entry.{Entry}
use Rattle.and_answers.specs.declared.found.Found.{Found}

-- the outcome with this line
abbrev pub outcome_with : Bool → Bytes → Listing.Outcome
outcome_with floundered line = if floundered then Listing.floundered line else Listing.answer line

-- the entry of a listing that an entry is
abbrev pub entry_of : Entry → Listing.Entry
entry_of entry = record { code = entry.code.value; outcome = outcome_with entry.floundered entry.line.value }

-- what was found, as a listing
abbrev pub listed : Found → List Listing.Entry
listed found = map entry_of found.entries

-- The codes are those of the entries, in the same order.
abbrev pub AreCodesOf : Found → List (List ℕ) → Type 0
AreCodesOf found codes = map (λ (e : Listing.Entry). e.code) (listed found) ≡ codes

-- the code of the last of these
abbrev pub last_code : List Listing.Entry → Option (List ℕ)
last_code [] = None
last_code (e ∷ []) = Some e.code
last_code (e ∷ d ∷ es) = last_code (d ∷ es)

-- the code of the last of these; and this one, where there are none
abbrev pub last_code_or : List ℕ → List Listing.Entry → List ℕ
last_code_or code [] = code
last_code_or code (e ∷ es) = last_code_or e.code es

-- how a run with this cut and these counts ended, as far as it is told
abbrev pub finish_with : Option Cut → ℕ → ℕ → Bool → Finish
finish_with (Some cut) forks failed stats = limit_met
finish_with None forks failed stats = if stats then complete_with forks failed else complete

abbrev pub finish_of : Found → Bool → Finish
finish_of found stats = finish_with found.cut found.forks found.failed stats

-- the sum of two counts, which stays at the largest number of 64 bits
abbrev pub total : ℕ → ℕ → ℕ
total one other = min (one + other) (2 ^ 64 - 1)

-- The counts and the cut are the same.
pub record SameEnd (old new : Found) : Type 0 where
  pub forks : new.forks ≡ old.forks
  pub failed : new.failed ≡ old.failed
  pub cut : new.cut ≡ old.cut

-- The entries, the counts and the cut are the same.
pub record IsSame (old new : Found) : Type 0 where
  pub entries : listed new ≡ listed old
  pub end : SameEnd old new

-- All entries of both, those of the one first, the sums of the counts, and one cut where there is one.
pub record Merges (one other both : Found) : Type 0 where
  pub entries : listed both ≡ listed one ++ listed other
  pub forks : both.forks ≡ total one.forks other.forks
  pub failed : both.failed ≡ total one.failed other.failed
  pub cut : both.cut ≡ option_or one.cut other.cut
