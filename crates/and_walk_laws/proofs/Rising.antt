-- What a walk finds stands in the order of codes.
use Rattle.std.proofs.Common.{ℕ, ◌≡◌, ◌<◌, ◌↔◌, ◌≢◌, Bool, List, [], ◌∷◌, append_assoc}
use Rattle.std.proofs.Common.{refl, sym, ◌∙◌, subst, inl, inr, All, AllPairs, Contains, get_or}
use Rattle.std.proofs.lemmas.List.Elements.{All-contains, All-contains_itself, Contains-append_cases}
use Rattle.std.proofs.lemmas.List.Kept.{AllPairs-cons}
use Rattle.and_model.specs.Programs.{Program}
use Rattle.and_model.specs.Trees.{QueryTree, query_agenda, blank, Below, code, decided}
use Rattle.and_model.specs.Reached.{Split}
use Rattle.and_model.specs.Listing.{Entry, Listing}
use Rattle.and_laws.specs.CodeOrder.{Before}
use Rattle.and_laws.specs.Entries.{IsWithin}
use Rattle.and_laws.proofs.Order.{below_self, below_then, reduce_above}
use Rattle.and_laws.proofs.Splitting.{split_code}
use Rattle.and_laws.proofs.Agreeing.{step_above}
use Rattle.and_laws.proofs.Ordered.{contains_first, contains_more, contains_none, contains_cases}
use Rattle.and_laws.proofs.Pairwise.{all_none, all_pairs_none, all_pairs_join, all_pairs_first, all_pairs_rest}
use Rattle.and_laws.proofs.Members.{entry, entries_listing}
use Rattle.and_laws.proofs.Exploring.{explored_entries, found_once}
use Rattle.and_walk_laws.specs.Walks.{Walks, WalksSplits}
use Rattle.and_walk_laws.proofs.Walking.{explored}

module _ (P : Program) (limit : ℕ) where
  -- Each entry has the code of a tree above the one that was walked.
  abbrev IsAbove : QueryTree P → Entry → Type 0
  IsAbove t e = (u : QueryTree P) × (code u ≡ e.code) × Below P (query_agenda P) t u

  -- (above one of the splits by these clauses)
  abbrev IsAboveSplit : QueryTree P → List ℕ → Entry → Type 0
  IsAboveSplit t cs e = (c : ℕ) × (next : QueryTree P) × Contains cs c × Split t c next × IsAbove next e

  mutual
    above : (t : QueryTree P) (es : List Entry) (f m : ℕ) (b : Bool) → Walks P limit t es f m b → (e : Entry) → Contains es e → IsAbove t e
    above t es f m b (Walks.stepped t' v ks g n d st w) e h = let r = above v ks g n d w e h in
        (r.0, r.1, below_then r.2 (step_above t' v st))
    above t es f m b (Walks.over t' v st x) e h = absurd (contains_none e h)
    above t es f m b (Walks.dead t' x) e h = absurd (contains_none e h)
    above t es f m b (Walks.ended t' o x a) e h = elim (contains_cases (entry t' o) e [] h) [
      | inl same ↦ subst (λ x. IsAbove t' x) (sym same) (t', refl, below_self t')
      | inr i ↦ absurd (contains_none e i)
    ]
    above t es f m b (Walks.forked t' cs ks g n d s o v w) e h =
        let (c, next, i, sp, r) = above_split t' cs ks g n d w e h in
        (r.0, r.1, below_then r.2 (subst (λ z. Below P (query_agenda P) t' z) (sym sp.8) (reduce_above t' sp.4 c sp.6)))

    above_split : (t : QueryTree P) (cs : List ℕ) (es : List Entry) (f m : ℕ) (b : Bool) → WalksSplits P limit t cs es f m b → (e : Entry)
        → Contains es e → IsAboveSplit t cs e
    above_split t cs es f m b (WalksSplits.no_more t') e h = absurd (contains_none e h)
    above_split t cs es f m b (WalksSplits.walked t' v c ds ks js f1 m1 f2 m2 b1 b2 sp w x) e h = elim (Contains-append_cases ks js e h) [
      | inl i ↦ (c, v, contains_first c ds, sp, above v ks f1 m1 b1 w e i)
      | inr i ↦ (let (d, next, j, sq, r) = above_split t' ds js f2 m2 b2 x e i in (d, next, contains_more c d ds j, sq, r))
    ]
    above_split t cs es f m b (WalksSplits.too_heavy t' v c ds js f2 m2 b2 sp y x) e h =
        let (d, next, j, sq, r) = above_split t' ds js f2 m2 b2 x e h in (d, next, contains_more c d ds j, sq, r)

  -- What is found from one split comes before what is found from those by larger clauses.
  splits_rise : (t next : QueryTree P) (c : ℕ) (cs : List ℕ) (ks js : List Entry) → Split t c next → All (λ d. c < d) cs
      → ((e : Entry) → Contains ks e → IsAbove next e) → ((e : Entry) → Contains js e → IsAboveSplit t cs e)
      → All (λ x. All (Before x) js) ks
  splits_rise t next c cs ks js sp less front back k x h j y i =
      let (u, is_code, under) = front (get_or ks k x) (All-contains_itself ks k x h) in
      let (d, other, has, sq, (v, is_other, under2)) = back (get_or js j y) (All-contains_itself js j y i) in
      let p = split_code t u next c sp under in
      let q = split_code t v other d sq under2 in
      inr (
        decided t,
        c,
        d,
        p.0,
        q.0,
        All-contains (λ d. c < d) cs d less has,
        sym is_code ∙ p.1 ∙ append_assoc (decided t) (c ∷ []) p.0,
        sym is_other ∙ q.1 ∙ append_assoc (decided t) (d ∷ []) q.0,
      )

  mutual
    pub rising : (t : QueryTree P) (es : List Entry) (f m : ℕ) (b : Bool) → Walks P limit t es f m b → AllPairs Before es
    rising t es f m b (Walks.stepped t' v ks g n d st w) = rising v ks g n d w
    rising t es f m b (Walks.over t' v st x) = all_pairs_none Before
    rising t es f m b (Walks.dead t' x) = all_pairs_none Before
    rising t es f m b (Walks.ended t' o x a) = AllPairs-cons Before (entry t' o) [] (all_none (Before (entry t' o)))
        (all_pairs_none Before)
    rising t es f m b (Walks.forked t' cs ks g n d s o v w) = rising_splits t' cs ks g n d w v.0

    rising_splits : (t : QueryTree P) (cs : List ℕ) (es : List Entry) (f m : ℕ) (b : Bool) → WalksSplits P limit t cs es f m b
        → AllPairs (λ c d. c < d) cs → AllPairs Before es
    rising_splits t cs es f m b (WalksSplits.no_more t') r = all_pairs_none Before
    rising_splits t cs es f m b (WalksSplits.walked t' v c ds ks js f1 m1 f2 m2 b1 b2 sp w x) r =
        all_pairs_join Before ks js (rising v ks f1 m1 b1 w) (rising_splits t' ds js f2 m2 b2 x (all_pairs_rest (λ c d. c < d) c ds r))
        (splits_rise t' v c ds ks js sp (all_pairs_first (λ c d. c < d) c ds r) (above v ks f1 m1 b1 w) (above_split t' ds js f2 m2 b2 x))
    rising_splits t cs es f m b (WalksSplits.too_heavy t' v c ds js f2 m2 b2 sp y x) r = rising_splits t' ds js f2 m2 b2 x
        (all_pairs_rest (λ c d. c < d) c ds r)

-- So it is the listing, as is each list in order with the same entries; and no code is found twice.
pub walked_in_order : (P : Program) (limit : ℕ) (es ls : List Entry) (f m : ℕ) (b : Bool) → Walks P limit (blank (query_agenda P)) es f m b
    → AllPairs Before ls → ((e : Entry) → Contains ls e ↔ Contains es e) → Listing P limit ls
walked_in_order P limit es ls f m b w order same =
    let has : (e : Entry) → Contains es e ↔ IsWithin P limit e = explored_entries P limit es
    (explored P limit (blank (query_agenda P)) es f m b w) in
    entries_listing P limit ls order (λ e. (λ i. (has e).0 ((same e).0 i), λ r. (same e).1 ((has e).1 r)))

pub walked_listing : (P : Program) (limit : ℕ) (es : List Entry) (f m : ℕ) (b : Bool) → Walks P limit (blank (query_agenda P)) es f m b
    → Listing P limit es
walked_listing P limit es f m b w = walked_in_order P limit es es f m b w (rising P limit (blank (query_agenda P)) es f m b w)
    (λ e. (λ i. i, λ i. i))

pub walked_once : (P : Program) (limit : ℕ) (t : QueryTree P) (es : List Entry) (f m : ℕ) (b : Bool) → Walks P limit t es f m b
    → AllPairs (λ (x y : Entry). x.code ≢ y.code) es
walked_once P limit t es f m b w = found_once P limit t es (explored P limit t es f m b w)
