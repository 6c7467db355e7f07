-- What a search within a step found, and the steps before it.
use Rattle.std.proofs.Common.{ℕ, ◌≡◌, ◌<◌, ◌≤◌, ◌++◌, length, length-append, Option, Some, None, refl, sym, ap, ◌∙◌, subst, arith}
use Rattle.std.proofs.Common.{inl, inr}
use Rattle.std.proofs.lemmas.Bool.{cases_lt}
use Rattle.std.proofs.lemmas.List.{take-append-le, take_all}
use Rattle.and_model.specs.Limits.{OverLimit}
use Rattle.and_model.specs.Listing.{Listing}
use Rattle.and_model.specs.Output.{lines_of}
use Rattle.and_model.specs.Programs.{Program}
use Rattle.and_model.specs.declared.goal
use Rattle.and_answers.specs.Kept.{listed}
use Rattle.and_answers.specs.declared.found.Found.{Found}
use Rattle.and_search_laws.specs.Found.{IsFound, IsEnd, FindsFirst}
use Rattle.and_first.specs.First.{IsStep, ListsFewer, AreFirst, AreAll, AreSome, IsTold, IsFirstOf, last_line}
use Rattle.and_first.specs.Steps.{IsSearched, IsNext, EndsAt, first_entries}
use Rattle.and_first.specs.Telling.{Tells}
use Rattle.and_first.specs.declared.first.End.{End}
use Rattle.and_first.specs.declared.first.End.TheVariants.{Within, Complete, LimitMet}
use Rattle.and_first.specs.declared.first.First.{First}
use Rattle.and_first.proofs.StepLemmas.{step_within}

module _ (P : Program) (limit count : ℕ) where
  -- The search begins with the first step.
  pub begun : (step : ℕ) → IsStep limit step → ((other : ℕ) → IsStep limit other → step ≤ other) → IsSearched P limit count step
  begun step is least = record {
    is_step = is;
    before = λ less at below. absurd (let low = least less at in omega (arith, low, below));
  }

  module _ (step : ℕ) (found : Found) (searched : IsSearched P limit count step) (finds : FindsFirst P step count found) where
    -- Where there are fewer, all was found.
    all_found : length (listed found) < count → IsFound P step found
    all_found fewer = elim finds [ inl is ↦ is | inr begins ↦ absurd (let enough = begins.enough in omega (arith, enough, fewer)) ]

    here_fewer : length (listed found) < count → ListsFewer P count step
    here_fewer fewer = (listed found, (all_found fewer).listing, fewer)

    -- Within each step up to this one there are fewer.
    up_to : length (listed found) < count → (other : ℕ) → IsStep limit other → other ≤ step → ListsFewer P count other
    up_to fewer other is most = elim (cases_lt other step) [
      | inl below ↦ searched.before other is below
      | inr above ↦ let same : step ≡ other = omega (arith, most, above) in subst (λ n. ListsFewer P count n) same (here_fewer fewer)
    ]

    -- The search goes on with the next step.
    pub goes_on : (next : ℕ) → length (listed found) < count → IsNext limit step next → IsSearched P limit count next
    goes_on next fewer is = record {
      is_step = is.is_step;
      before = λ other at below. up_to fewer other at (is.none_between other at below);
    }

    are_first : count ≤ length (listed found) → AreFirst P limit count step (first_entries found count)
    are_first enough = elim finds [
      | inl is ↦ record {
        is_step = searched.is_step;
        before = searched.before;
        listing = listed found;
        lists = is.listing;
        enough = enough;
        first = refl;
      }
      | inr begins ↦ record {
        is_step = searched.is_step;
        before = searched.before;
        listing = listed found ++ begins.rest;
        lists = begins.listing;
        enough = let long = length-append (listed found) begins.rest in omega (arith, long, enough);
        first = sym (take-append-le count (listed found) begins.rest enough);
      }
    ]

    -- (what is told of all entries is all)
    whole : length (listed found) < count → first_entries found count ≡ listed found
    whole fewer = take_all count (listed found) (omega (arith, fewer))

    are_all : length (listed found) < count → found.cut ≡ None → AreAll P limit count (first_entries found count)
    are_all fewer uncut =
        let is = all_found fewer in
        let end : IsEnd P step found None = subst (λ c. IsEnd P step found c) uncut is.end in
        record {
          fewer = λ other at. elim (cases_lt step other) [
            | inl above ↦ (listed found, (end.exhausted other (omega (arith, above)) (listed found)).1 is.listing, fewer)
            | inr below ↦ up_to fewer other at below
          ];
          step = step;
          is_step = searched.is_step;
          lists = subst (λ es. Listing P step es) (sym (whole fewer)) is.listing;
          exhausted = end.exhausted;
          forks = end.forks;
          failed = end.failed;
          numbers = end.numbers;
        }

    are_some : (cut : goal.Cut.Cut) → length (listed found) < count → limit ≤ step → found.cut ≡ Some cut
        → AreSome P limit count (first_entries found count)
    are_some cut fewer large is_cut =
        let is = all_found fewer in
        let small = step_within limit step searched.is_step in
        let same : step ≡ limit = omega (arith, small, large) in
        let end : IsEnd P step found (Some cut) = subst (λ c. IsEnd P step found c) is_cut is.end in
        record {
          fewer = λ other at. let most = step_within limit other at in up_to fewer other at (omega (arith, most, large));
          lists = subst (λ n. Listing P n (first_entries found count)) same (subst (λ es. Listing P step es) (sym (whole fewer)) is.listing);
          cut = end.0;
          over = subst (λ n. OverLimit P n end.0) same end.2;
        }

    -- So what is told is by how the search ended.
    is_told : (end : End) → EndsAt found step limit count (Some end) → IsTold P limit count end (first_entries found count)
    is_told (Within reached) x =
        subst (λ n. AreFirst P limit count n (first_entries found count)) (sym x.0) (are_first x.1)
    is_told Complete x = are_all x.0 x.1
    is_told LimitMet x = by_cut found.cut refl
      where
        by_cut : (cut : Option goal.Cut.Cut) → found.cut ≡ cut → AreSome P limit count (first_entries found count)
        by_cut None none = absurd (x.2 none)
        by_cut (Some cut) some = are_some cut x.0 x.1 some

    pub finished : (end : End) (first : First) → EndsAt found step limit count (Some end) → Tells (first_entries found count) count end first
        → IsFirstOf P limit count first
    finished end first ends tells = record {
      told = first_entries found count;
      is_told = subst (λ e. IsTold P limit count e (first_entries found count)) (sym tells.end_is) (is_told end ends);
      text = tells.text ∙ ap (λ e. lines_of (first_entries found count) ++ last_line count e) (sym tells.end_is);
      lines = tells.lines;
      floundered = tells.floundered;
    }
