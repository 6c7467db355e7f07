-- What is found of what was told, and what that is of the query.
use Rattle.std.proofs.Common.{ℕ, ◌≡◌, ◌+◌, ◌≤◌, Bool, true, false, ◌||◌, List, [], ◌∷◌, ◌++◌, length, append-nil, refl, sym, ap, ◌∙◌}
use Rattle.std.proofs.Common.{subst, arith, inl, inr, Contains}
use Rattle.std.specs.Prelude.{Option, Some, None}
use Rattle.std.specs.Option.{option_or}
use Rattle.and_model.specs.Listing.{Entry, Listing, Outcome}
use Rattle.and_model.specs.Programs.{Program}
use Rattle.and_model.specs.Trees.{blank, query_agenda}
use Rattle.and_model.specs.declared.goal.Cut.{Cut}
use Rattle.std.proofs.lemmas.Bool.{leb-true, leb-false}
use Rattle.std.proofs.lemmas.List.{length-append}
use Rattle.and_laws.proofs.Ordered.{contains_first, contains_more}
use Rattle.and_answers.specs.Kept.{listed, total, SameEnd}
use Rattle.and_answers.specs.declared.found.Found.{Found}
use Rattle.and_walk_laws.specs.Walks.{Walks}
use Rattle.and_search_laws.specs.Ended.{IsEndSoFar, SameButCut}
use Rattle.and_search_laws.specs.Found.{kept_count, IsEnd, IsFound, FindsFirst}
use Rattle.and_search_laws.proofs.Ending.{one_counted, walked_found}
use Rattle.and_traces.specs.Traces
use Rattle.and_traces.specs.Traces.{Event, Report, TracesQuery, CutsMeet, IsWalkOf, is_fork, is_failed, count_of, has_cut}
use Rattle.and_traces.specs.Traces.{entries_of, cut_report}
use Rattle.and_traces.proofs.Walked.{entries_both, counted_both, walk_of, query_listed}
use Rattle.and_visit.specs.Searched.{IsSearched}
use Rattle.and_walk.specs.Finding.{HasFound, FindsSoFar, is_enough, cut_of, first_cut}
use Rattle.and_walk.specs.Walked.{WasWalked, IsFew}

-- ---- Lists of reports

or_assoc : (a b c : Option Cut) → option_or a (option_or b c) ≡ option_or (option_or a b) c
or_assoc None b c = refl
or_assoc (Some x) b c = refl

first_both : (rs qs : List Report) → first_cut (rs ++ qs) ≡ option_or (first_cut rs) (first_cut qs)
first_both [] qs = refl
first_both (r ∷ rs) qs =
    ap (λ (x : Option Cut). option_or (cut_of r.event) x) (first_both rs qs) ∙ or_assoc (cut_of r.event) (first_cut rs) (first_cut qs)

-- Where no cut is the first none is told;
no_first_of : (w : Event) (rs : List Report) → (first_cut rs ≡ None → has_cut rs ≡ false) → option_or (cut_of w) (first_cut rs) ≡ None
    → Traces.is_cut w || has_cut rs ≡ false
no_first_of (Traces.forked cs) rs none e = none e
no_first_of (Traces.cut x) rs none e = absurd (cc)
no_first_of Traces.failed rs none e = none e
no_first_of (Traces.ended cs o) rs none e = none e

no_first : (rs : List Report) → first_cut rs ≡ None → has_cut rs ≡ false
no_first [] e = refl
no_first (r ∷ rs) e = no_first_of r.event rs (no_first rs) e

-- and the one that is was told.
record IsToldIn (x : Cut) (rs : List Report) : Type 0 where
  pub cut : has_cut rs ≡ true
  pub depth : ℕ
  pub told : Contains rs (record { depth = depth; event = Traces.cut x })

pub some_same : {A : Type 0} (x y : A) → Some x ≡ Some y → x ≡ y
some_same x y e = cc

told_further : (x : Cut) (d : ℕ) (w : Event) (rs : List Report) → Traces.is_cut w ≡ false → IsToldIn x rs
    → IsToldIn x (record { depth = d; event = w } ∷ rs)
told_further x d w rs uncut i = record {
  cut = ap (λ b. b || has_cut rs) uncut ∙ i.cut;
  depth = i.depth;
  told = contains_more (record { depth = d; event = w }) (record { depth = i.depth; event = Traces.cut x }) rs i.told;
}

some_first_of : (x : Cut) (d : ℕ) (w : Event) (rs : List Report) → (first_cut rs ≡ Some x → IsToldIn x rs)
    → option_or (cut_of w) (first_cut rs) ≡ Some x → IsToldIn x (record { depth = d; event = w } ∷ rs)
some_first_of x d (Traces.forked cs) rs behind e = told_further x d (Traces.forked cs) rs refl (behind e)
some_first_of x d (Traces.cut y) rs behind e = record {
  cut = refl;
  depth = d;
  told = subst (λ z. Contains (record { depth = d; event = Traces.cut y } ∷ rs) (record { depth = d; event = Traces.cut z }))
      (some_same y x e)
      (contains_first (record { depth = d; event = Traces.cut y }) rs);
}
some_first_of x d Traces.failed rs behind e = told_further x d Traces.failed rs refl (behind e)
some_first_of x d (Traces.ended cs o) rs behind e = told_further x d (Traces.ended cs o) rs refl (behind e)

some_first : (x : Cut) (rs : List Report) → first_cut rs ≡ Some x → IsToldIn x rs
some_first x [] e = absurd (cc)
some_first x (r ∷ rs) e = some_first_of x r.depth r.event rs (some_first x rs) e

-- (a fork, with the cut that is told with it)
entries_cut : (d : ℕ) (cut : Option Cut) → entries_of (cut_report d cut) ≡ []
entries_cut d None = refl
entries_cut d (Some x) = refl

forks_cut : (d : ℕ) (cut : Option Cut) → count_of is_fork (cut_report d cut) ≡ 0
forks_cut d None = refl
forks_cut d (Some x) = refl

failed_cut : (d : ℕ) (cut : Option Cut) → count_of is_failed (cut_report d cut) ≡ 0
failed_cut d None = refl
failed_cut d (Some x) = refl

first_of : (d : ℕ) (cut : Option Cut) → first_cut (cut_report d cut) ≡ cut
first_of d None = refl
first_of d (Some x) = refl

-- ---- What is found

found_told : (old new : Found) (seen more : List Report) → HasFound old seen → listed new ≡ listed old ++ entries_of more
    → new.forks ≡ kept_count (count_of is_fork seen + count_of is_fork more)
    → new.failed ≡ kept_count (count_of is_failed seen + count_of is_failed more) → new.cut ≡ option_or old.cut (first_cut more)
    → HasFound new (seen ++ more)
found_told old new seen more h entries forks failed cut = record {
  entries = entries ∙ ap (λ (es : List Entry). es ++ entries_of more) h.entries ∙ sym (entries_both seen more);
  forks = forks ∙ ap (λ n. kept_count n) (sym (counted_both is_fork seen more));
  failed = failed ∙ ap (λ n. kept_count n) (sym (counted_both is_failed seen more));
  cut = cut ∙ ap (λ (x : Option Cut). option_or x (first_cut more)) h.cut ∙ sym (first_both seen more);
}

none_more : (cut : Option Cut) → option_or cut None ≡ cut
none_more None = refl
none_more (Some x) = refl

same_count : (kept n m : ℕ) → kept ≡ kept_count n → n ≡ m → kept ≡ kept_count m
same_count kept n m e same = e ∙ ap (λ k. kept_count k) same

pub found_fork : (old counted new : Found) (seen : List Report) (d : ℕ) (cs : List ℕ) (cut : Option Cut) → HasFound old seen
    → counted.forks ≡ total old.forks 1 → counted.failed ≡ old.failed → (counted.cut ≡ old.cut) × (listed counted ≡ listed old)
    → SameButCut counted new → new.cut ≡ option_or counted.cut cut
    → HasFound new (seen ++ record { depth = d; event = Traces.forked cs } ∷ cut_report d cut)
found_fork old counted new seen d cs cut h forks failed rest same kept =
    let more : List Report = record { depth = d; event = Traces.forked cs } ∷ cut_report d cut in
    let f : ℕ = count_of is_fork seen in
    let m : ℕ = count_of is_failed seen in
    let no_forks = forks_cut d cut in
    let no_failed = failed_cut d cut in
    found_told old new seen more h
    (same.entries ∙ rest.1 ∙ sym (append-nil (listed old)) ∙ ap (λ (es : List Entry). listed old ++ es) (sym (entries_cut d cut)))
    (same_count new.forks (f + 1) (f + count_of is_fork more) (same.forks ∙ forks ∙ one_counted old.forks f h.forks) (omega (arith, no_forks)))
    (same_count new.failed m (m + count_of is_failed more) (same.failed ∙ failed ∙ h.failed) (omega (arith, no_failed)))
    (kept ∙ ap (λ (x : Option Cut). option_or x cut) rest.0 ∙ ap (λ (x : Option Cut). option_or old.cut x) (sym (first_of d cut)))

pub found_failed : (old new : Found) (seen : List Report) (d : ℕ) → HasFound old seen → new.failed ≡ total old.failed 1
    → new.forks ≡ old.forks → (new.cut ≡ old.cut) × (listed new ≡ listed old)
    → HasFound new (seen ++ record { depth = d; event = Traces.failed } ∷ [])
found_failed old new seen d h failed forks rest =
    let f : ℕ = count_of is_fork seen in
    let m : ℕ = count_of is_failed seen in
    found_told old new seen (record { depth = d; event = Traces.failed } ∷ []) h (rest.1 ∙ sym (append-nil (listed old)))
    (same_count new.forks f (f + 0) (forks ∙ h.forks) (omega arith))
    (failed ∙ one_counted old.failed m h.failed)
    (rest.0 ∙ sym (none_more old.cut))

pub found_cut : (old new : Found) (seen : List Report) (d : ℕ) (x : Cut) → HasFound old seen → SameButCut old new
    → new.cut ≡ option_or old.cut (Some x) → HasFound new (seen ++ record { depth = d; event = Traces.cut x } ∷ [])
found_cut old new seen d x h same kept =
    let f : ℕ = count_of is_fork seen in
    let m : ℕ = count_of is_failed seen in
    found_told old new seen (record { depth = d; event = Traces.cut x } ∷ []) h (same.entries ∙ sym (append-nil (listed old)))
    (same_count new.forks f (f + 0) (same.forks ∙ h.forks) (omega arith))
    (same_count new.failed m (m + 0) (same.failed ∙ h.failed) (omega arith)) kept

pub found_end : (old new : Found) (seen : List Report) (d : ℕ) (e : Entry) → HasFound old seen → listed new ≡ listed old ++ e ∷ []
    → SameEnd old new → HasFound new (seen ++ record { depth = d; event = Traces.ended e.code e.outcome } ∷ [])
found_end old new seen d e h entries same =
    let f : ℕ = count_of is_fork seen in
    let m : ℕ = count_of is_failed seen in
    found_told old new seen (record { depth = d; event = Traces.ended e.code e.outcome } ∷ []) h entries
    (same_count new.forks f (f + 0) (same.forks ∙ h.forks) (omega arith))
    (same_count new.failed m (m + 0) (same.failed ∙ h.failed) (omega arith)) (same.cut ∙ sym (none_more old.cut))

-- ---- What that is of the query

module _ (P : Program) (limit : ℕ) (found : Found) where
  end_of : (seen : List Report) (f : ℕ) → HasFound found seen → CutsMeet P limit seen → (has_cut seen ≡ false → f ≡ count_of is_fork seen)
      → (c : Option Cut) → first_cut seen ≡ c → IsEndSoFar P limit found f (count_of is_failed seen) (has_cut seen) c
  end_of seen f h cuts counted None e =
      let uncut = no_first seen e in
      (uncut, h.forks ∙ ap (λ n. kept_count n) (sym (counted uncut)), h.failed)
  end_of seen f h cuts counted (Some x) e =
      let i = some_first x seen e in
      let meets = cuts i.depth x i.told in
      (i.cut, meets.0, meets.1, meets.2)

  query_found : (seen : List Report) → TracesQuery P limit seen → CutsMeet P limit seen → HasFound found seen
      → IsFound P limit found × WasWalked P limit found
  query_found seen (TracesQuery.alone x heavy) cuts h =
      let seen : List Report = record { depth = 0; event = Traces.cut x } ∷ [] in
      let meets = cuts 0 x (contains_first (record { depth = 0; event = Traces.cut x }) []) in (
        record {
          listing = subst (λ es. Listing P limit es) (sym h.entries) (query_listed P limit seen (TracesQuery.alone x heavy));
          end = subst (λ c. IsEnd P limit found c) (sym h.cut) meets;
        },
        inl heavy,
      )
  query_found seen (TracesQuery.walked ks trace) cuts h =
      let w : IsWalkOf P limit (blank (query_agenda P)) ks = walk_of P limit (blank (query_agenda P)) 0 ks trace in
      let walks : Walks P limit (blank (query_agenda P)) (listed found) w.forks (count_of is_failed ks) (has_cut ks) =
      subst (λ es. Walks P limit (blank (query_agenda P)) es w.forks (count_of is_failed ks) (has_cut ks)) (sym h.entries) w.walks in
      let end : IsEndSoFar P limit found w.forks (count_of is_failed ks) (has_cut ks) found.cut =
      subst (λ c. IsEndSoFar P limit found w.forks (count_of is_failed ks) (has_cut ks) c) (sym h.cut)
      (end_of ks w.forks h cuts w.counted (first_cut ks) refl) in (
        walked_found P limit found w.forks (count_of is_failed ks) (has_cut ks) walks end,
        inr (record {
          forks = w.forks;
          failed = count_of is_failed ks;
          is_cut = has_cut ks;
          walks = walks;
          counted = λ none.
              let uncut = no_first ks (sym h.cut ∙ none) in
              (uncut, h.forks ∙ ap (λ n. kept_count n) (sym (w.counted uncut)), h.failed);
          cut_off = λ x e. (some_first x ks (sym h.cut ∙ e)).cut;
        }),
      )

  -- All was found, where the visitor had not enough;
  pub found_all : (enough : Bool) → IsSearched P limit (λ seen. HasFound found seen) enough → enough ≡ false
      → IsFound P limit found × WasWalked P limit found
  found_all enough x uncut =
      let all : x.seen ++ x.rest ≡ x.seen = ap (λ rs. x.seen ++ rs) (x.whole uncut) ∙ append-nil x.seen in
      query_found x.seen (subst (λ rs. TracesQuery P limit rs) all x.traces) x.cuts x.has

  -- else the first entries.
  pub found_first : (count : ℕ) (enough : Bool) → IsSearched P limit (λ seen. HasFound found seen) enough
      → (enough ≡ true → count ≤ length (listed found)) → FindsFirst P limit count found
  found_first count false x many = inl (found_all false x refl).0
  found_first count true x many = inr (record {
    rest = entries_of x.rest;
    listing = subst (λ es. Listing P limit es)
        (entries_both x.seen x.rest ∙ ap (λ (es : List Entry). es ++ entries_of x.rest) (sym x.has.entries))
        (query_listed P limit (x.seen ++ x.rest) x.traces);
    enough = many refl;
  })

-- ---- As many as are asked for

-- No more were found than are asked for, where the entries are the same,
pub few_same : (most : Option ℕ) (old new : Found) → listed new ≡ listed old → IsFew most old → IsFew most new
few_same None old new same few = few
few_same (Some count) old new same few = subst (λ (es : List Entry). length es ≤ count) (sym same) few

-- or there is one more, and there were not enough.
pub few_more : (most : Option ℕ) (old new : Found) (e : Entry) → is_enough most old ≡ false → listed new ≡ listed old ++ e ∷ []
    → IsFew most new
few_more None old new e going more = tt
few_more (Some count) old new e going more =
    let below = leb-false count (length (listed old)) going in
    let long : length (listed new) ≡ length (listed old ++ e ∷ []) = ap (λ (es : List Entry). length es) more in
    let sum = length-append (listed old) (e ∷ []) in
    omega (arith, below, long, sum)

pub few_none : (most : Option ℕ) (found : Found) → listed found ≡ [] → IsFew most found
few_none None found none = tt
few_none (Some count) found none = subst (λ (es : List Entry). length es ≤ count) (sym none) (omega arith)

pub found_none : (found : Found) → listed found ≡ [] → (found.forks ≡ 0) × (found.failed ≡ 0) × (found.cut ≡ None) → HasFound found []
found_none found none end = record { entries = none; forks = end.0; failed = end.1; cut = end.2 }

module _ (P : Program) (limit : ℕ) (found : Found) where
  -- (without what is said of their number)
  only_found : (most : Option ℕ) (enough : Bool) → IsSearched P limit (λ seen. FindsSoFar most found seen) enough
      → IsSearched P limit (λ seen. HasFound found seen) enough
  only_found most enough x = record {
    seen = x.seen;
    has = x.has.0;
    cuts = x.cuts;
    rest = x.rest;
    traces = x.traces;
    whole = x.whole;
  }

  -- All was found, where no number is asked for;
  pub all_found : (most : Option ℕ) → most ≡ None → IsSearched P limit (λ seen. FindsSoFar most found seen) (is_enough most found)
      → IsFound P limit found × WasWalked P limit found
  all_found most none x = found_all P limit found (is_enough most found) (only_found most (is_enough most found) x)
      (ap (λ m. is_enough m found) none)

  -- else so many of the first.
  pub first_found : (most : Option ℕ) (count : ℕ) → most ≡ Some count
      → IsSearched P limit (λ seen. FindsSoFar most found seen) (is_enough most found)
      → FindsFirst P limit count found × (length (listed found) ≤ count)
  first_found most count is x = (
    found_first P limit found count (is_enough most found) (only_found most (is_enough most found) x)
        (λ e. leb-true count (length (listed found)) (sym (ap (λ m. is_enough m found) is) ∙ e)),
    subst (λ m. IsFew m found) is x.has.1,
  )

-- An entry more, of this code.
pub found_last : (most : Option ℕ) (old new : Found) (seen : List Report) (d : ℕ) (cs ds : List ℕ) (o : Outcome) → FindsSoFar most old seen
    → is_enough most old ≡ false → cs ≡ ds → SameEnd old new → listed new ≡ listed old ++ record { code = cs; outcome = o } ∷ []
    → FindsSoFar most new (seen ++ record { depth = d; event = Traces.ended ds o } ∷ [])
found_last most old new seen d cs ds o has going same end more =
    let e : Entry = record { code = cs; outcome = o } in (
      subst (λ ks. HasFound new (seen ++ record { depth = d; event = Traces.ended ks o } ∷ [])) same
          (found_end old new seen d e has.0 more end),
      few_more most old new e going more,
    )
