-- How a search ended so far: counts, and cuts that are kept.
use Rattle.std.proofs.Common.{ℕ, ◌+◌, ◌-◌, ◌^◌, ◌≡◌, ◌<◌, Bool, [], true, false, refl, sym, ap, ◌∙◌, subst, arith, min}
use Rattle.std.proofs.Common.{inl, inr}
use Rattle.std.specs.Prelude.{Option, Some, None}
use Rattle.std.specs.Option.{option_or}
use Rattle.std.proofs.lemmas.Bool.{cases_lt}
use Rattle.std.proofs.Math.Nat.{min-eq_left, min-eq_right}
use Rattle.and_model.specs.Limits.{Cut, OverLimit, query_alone}
use Rattle.and_model.specs.Listing.{Listing}
use Rattle.and_model.specs.Programs.{Program, clause_weight}
use Rattle.and_model.specs.Trees.{blank, query_agenda, weight}
use Rattle.and_model.specs.declared.goal
use Rattle.and_laws.proofs.Order.{blank_weighs}
use Rattle.and_cells.specs.Ranges.{NamedProgram}
use Rattle.and_branch_laws.specs.States.{IsCut}
use Rattle.and_code.specs.Written.{all_written}
use Rattle.and_answers.specs.Kept.{listed, total}
use Rattle.and_answers.specs.declared.found.Found.{Found}
use Rattle.and_walk_laws.specs.Walks.{Walks}
use Rattle.and_walk_laws.proofs.Numbering.{numbered, whole_exhausts, alone_over}
use Rattle.and_walk_laws.proofs.Rising.{walked_listing}
use Rattle.and_search_laws.specs.Found.{kept_count, IsEnd, IsFound}
use Rattle.and_search_laws.specs.Ended.{IsEndSoFar}

-- a count that is kept, with one more
pub one_counted : (kept count : ℕ) → kept ≡ kept_count count → total kept 1 ≡ kept_count (count + 1)
one_counted kept count e =
    let most : ℕ = 2 ^ 64 - 1 in
    elim (cases_lt count most) [
      | inl below ↦
          (let is : kept_count count ≡ count = min-eq_left (omega arith) in
          let same : kept ≡ count = e ∙ is in
          ap (λ n. min (n + 1) most) same)
      | inr above ↦
          (let is : kept_count count ≡ most = min-eq_right above in
          let same : kept ≡ most = e ∙ is in
          let old : min (kept + 1) most ≡ most = min-eq_right (omega arith) in
          let new : min (count + 1) most ≡ most = min-eq_right (omega arith) in
          old ∙ sym new)
    ]

module _ (P : Program) (limit : ℕ) where
  -- what is cut off there
  abbrev pub MeetsLimit : goal.Cut.Cut → Type 0
  MeetsLimit cut = (over : Cut P) × IsCut (all_written cut.partial) cut.goal cut.clause.0 over × OverLimit P limit over

  -- The counts go on, and the cut stays.
  pub end_counted : (old new : Found) (f m g n : ℕ) (b d : Bool) → new.cut ≡ old.cut → d ≡ b
      → (old.forks ≡ kept_count f → new.forks ≡ kept_count g) → (old.failed ≡ kept_count m → new.failed ≡ kept_count n)
      → IsEndSoFar P limit old f m b old.cut → IsEndSoFar P limit new g n d new.cut
  end_counted old new f m g n b d same flag forks failed h = subst (λ c. IsEndSoFar P limit new g n d c) (sym same) (go old.cut h)
    where
      go : (c : Option goal.Cut.Cut) → IsEndSoFar P limit old f m b c → IsEndSoFar P limit new g n d c
      go None e = (flag ∙ e.0, forks e.1, failed e.2)
      go (Some cut) e = (flag ∙ e.0, e.1, e.2, e.3)

  -- A cut is kept where there is none yet; from then on the counts are not told.
  pub end_cut : (old new : Found) (f m g n : ℕ) (b d : Bool) (cut : goal.Cut.Cut) → new.cut ≡ option_or old.cut (Some cut) → d ≡ true → MeetsLimit cut
      → IsEndSoFar P limit old f m b old.cut → IsEndSoFar P limit new g n d new.cut
  end_cut old new f m g n b d cut kept flag meets h = subst (λ c. IsEndSoFar P limit new g n d c) (sym kept) (go old.cut h)
    where
      go : (c : Option goal.Cut.Cut) → IsEndSoFar P limit old f m b c → IsEndSoFar P limit new g n d (option_or c (Some cut))
      go None e = (flag, meets.0, meets.1, meets.2)
      go (Some first) e = (flag, e.1, e.2, e.3)

  -- Where a walk is over, the search has ended so.
  pub walked_found : (found : Found) (f m : ℕ) (b : Bool) → Walks P limit (blank (query_agenda P)) (listed found) f m b
      → IsEndSoFar P limit found f m b found.cut → IsFound P limit found
  walked_found found f m b w h = record { listing = walked_listing P limit (listed found) f m b w; end = go found.cut h }
    where
      go : (c : Option goal.Cut.Cut) → IsEndSoFar P limit found f m b c → IsEnd P limit found c
      go None e =
          let whole : Walks P limit (blank (query_agenda P)) (listed found) f m false =
          subst (λ z. Walks P limit (blank (query_agenda P)) (listed found) f m z) e.0 w in
          record {
            exhausted = whole_exhausts P limit (listed found) f m whole;
            forks = f;
            failed = m;
            numbers = numbered P limit (blank (query_agenda P)) (listed found) f m false whole refl;
            forks_kept = e.1;
            failed_kept = e.2;
          }
      go (Some cut) e = (e.1, e.2, e.3)

-- The query by itself was too heavy.
pub alone : (P : NamedProgram) (limit : ℕ) (found : Found) (cut : goal.Cut.Cut) → listed found ≡ [] → found.cut ≡ Some cut
    → limit < clause_weight P.program.query
    → IsCut {P = P.program} (all_written cut.partial) cut.goal cut.clause.0 query_alone → IsFound P.program limit found
alone P limit found cut none is_cut heavy is =
    let weighs : weight (blank {P = P.program} (query_agenda P.program)) ≡ clause_weight P.program.query =
    omega (arith, blank_weighs P.program (query_agenda P.program)) in
    let both = alone_over P.program limit (omega (arith, weighs, heavy)) in
    record {
      listing = subst (λ es. Listing P.program limit es) (sym none) both.0;
      end = subst (λ c. IsEnd P.program limit found c) (sym is_cut) (query_alone, is, both.1);
    }
