-- Exploring suffices: an exploration finds the entries within the limit, each code once, and no others.
use Rattle.std.proofs.Common.{ℕ, ◌≡◌, ◌≢◌, ◌≤◌, ◌↔◌, List, [], ◌∷◌, refl, ap, sym, ◌∙◌, subst, inl, inr, arith, All, AllPairs, Contains, get_or}
use Rattle.std.proofs.lemmas.List.Elements.{All-contains, All-contains_itself, Contains-append_left, Contains-append_right, Contains-append_cases}
use Rattle.std.proofs.lemmas.List.Kept.{AllPairs-cons}
use Rattle.and_model.specs.Programs.{Program}
use Rattle.and_model.specs.Trees.{QueryTree, query_agenda, blank, Below, code, decided, weight}
use Rattle.and_model.specs.Reached.{Split}
use Rattle.and_model.specs.Listing.{Outcome, Ends, Entry}
use Rattle.and_laws.specs.Entries.{IsWithin}
use Rattle.and_laws.specs.Explorations.{Explores, ExploresSplits, stepped, heavy, dead, ended, forked, none, more}
use Rattle.and_laws.proofs.PrefixLemmas.{same_after}
use Rattle.and_laws.proofs.Order.{below_self, below_weight, below_then, blank_below, reduce_above, whole_same}
use Rattle.and_laws.proofs.Keeping.{step_keeps, dead_has_none}
use Rattle.and_laws.proofs.Splitting.{split_divides, split_code, split_same}
use Rattle.and_laws.proofs.Agreeing.{step_above}
use Rattle.and_laws.proofs.Listings.{one_outcome, ends_outcome}
use Rattle.and_laws.proofs.Ordered.{contains_first, contains_more, contains_none, contains_cases}
use Rattle.and_laws.proofs.Pairwise.{all_none, all_pairs_none, all_pairs_join, all_pairs_first, all_pairs_rest}
use Rattle.and_laws.proofs.Members.{entry}

-- A split goes up.
split_above : {P : Program} (t : QueryTree P) (c : ℕ) (next : QueryTree P) → Split t c next → Below P (query_agenda P) t next
split_above {P} t c next sp = subst (λ z. Below P (query_agenda P) t z) (sym sp.8) (reduce_above t sp.4 c sp.6)

module _ (P : Program) (limit : ℕ) where
  -- A tree that ends, and weighs at most the limit, is found from each tree that it is above.
  module _ (u : QueryTree P) (o : Outcome) (ends : Ends u o) (fits : weight u ≤ limit) where
    mutual
      found : (t : QueryTree P) (es : List Entry) → Explores P limit t es → Below P (query_agenda P) t u → Contains es (entry u o)
      found t es (stepped t' v ks st x) b = found v ks x (step_keeps t' v u b (ends_outcome u o ends) st)
      found t es (heavy t' h) b = absurd (omega (arith, below_weight b, fits))
      found t es (dead t' d) b = absurd (dead_has_none t' u b (ends_outcome u o ends) d)
      found t es (ended t' r w a) b =
          let same : t' ≡ u = whole_same t' u a.0 b in
          let outcomes : r ≡ o = one_outcome u r o (subst (λ z. Ends z r) same a) ends in
          subst (λ x. Contains (entry t' r ∷ []) x) (ap (λ z. entry z r) same ∙ ap (λ x. entry u x) outcomes) (contains_first (entry t' r) [])
      found t es (forked t' cs ks shut any distinct each x) b =
          let s = split_divides t' u b (ends_outcome u o ends) shut any in
          found_split t' cs ks x s.0 s.1 s.2 ((each s.0).1 (s.1, s.2)) s.3

      found_split : (t : QueryTree P) (cs : List ℕ) (es : List Entry) → ExploresSplits P limit t cs es → (c : ℕ) (v : QueryTree P) → Split t c v
          → Contains cs c → Below P (query_agenda P) v u → Contains es (entry u o)
      found_split t cs es (none t') c v sp h b = absurd (contains_none c h)
      found_split t cs es (more t' n d ds ks js sq x y) c v sp h b = elim (contains_cases d c ds h) [
        | inl e ↦
            let same : v ≡ n = split_same t' v n d (subst (λ z. Split t' z v) e sp) sq in
            Contains-append_left ks js (entry u o) (found n ks x (subst (λ z. Below P (query_agenda P) z u) same b))
        | inr i ↦ Contains-append_right ks js (entry u o) (found_split t' ds js y c v sp i b)
      ]

  -- Each entry that is found from a tree is that of a tree above it that ends, and weighs at most the limit.
  abbrev IsAbove : QueryTree P → Entry → Type 0
  IsAbove t e = (u : QueryTree P) × (code u ≡ e.code) × Ends u e.outcome × (weight u ≤ limit) × Below P (query_agenda P) t u

  -- (of a tree above one of the splits by these clauses)
  abbrev IsAboveSplit : QueryTree P → List ℕ → Entry → Type 0
  IsAboveSplit t cs e = (c : ℕ) × (next : QueryTree P) × Contains cs c × Split t c next × IsAbove next e

  mutual
    only_found : (t : QueryTree P) (es : List Entry) → Explores P limit t es → (e : Entry) → Contains es e → IsAbove t e
    only_found t es (stepped t' v ks st x) e h = let r = only_found v ks x e h in (r.0, r.1, r.2, r.3, below_then r.4 (step_above t' v st))
    only_found t es (heavy t' w) e h = absurd (contains_none e h)
    only_found t es (dead t' d) e h = absurd (contains_none e h)
    only_found t es (ended t' o w a) e h = elim (contains_cases (entry t' o) e [] h) [
      | inl same ↦ subst (λ x. IsAbove t' x) (sym same) (t', refl, a, w, below_self t')
      | inr i ↦ absurd (contains_none e i)
    ]
    only_found t es (forked t' cs ks shut any distinct each x) e h =
        let (c, next, i, sp, r) = only_found_split t' cs ks x e h in
        (r.0, r.1, r.2, r.3, below_then r.4 (split_above t' c next sp))

    only_found_split : (t : QueryTree P) (cs : List ℕ) (es : List Entry) → ExploresSplits P limit t cs es → (e : Entry) → Contains es e → IsAboveSplit t cs e
    only_found_split t cs es (none t') e h = absurd (contains_none e h)
    only_found_split t cs es (more t' n d ds ks js sp x y) e h = elim (Contains-append_cases ks js e h) [
      | inl i ↦ (d, n, contains_first d ds, sp, only_found n ks x e i)
      | inr i ↦ (let (c, next, j, sq, r) = only_found_split t' ds js y e i in (c, next, contains_more d c ds j, sq, r))
    ]

  abbrev Differ : Entry → Entry → Type 0
  Differ x y = x.code ≢ y.code

  -- what is found from one split has other codes than what is found from the others
  splits_differ : (t next : QueryTree P) (c : ℕ) (cs : List ℕ) (ks js : List Entry) → Split t c next → All (λ d. c ≢ d) cs
      → ((e : Entry) → Contains ks e → IsAbove next e) → ((e : Entry) → Contains js e → IsAboveSplit t cs e) → All (λ x. All (Differ x) js) ks
  splits_differ t next c cs ks js sp apart front back k x h j y i same =
      let (u, is_code, a, w, above) = front (get_or ks k x) (All-contains_itself ks k x h) in
      let (d, other, has, sq, (v, is_other, a2, w2, above2)) = back (get_or js j y) (All-contains_itself js j y i) in
      let p = split_code t u next c sp above in
      let q = split_code t v other d sq above2 in
      let codes : code u ≡ code v = is_code ∙ same ∙ sym is_other in
      All-contains (λ d. c ≢ d) cs d apart has (same_after (decided t) p.0 q.0 c d (sym p.1 ∙ codes ∙ q.1))

  -- No code is found twice.
  mutual
    pub found_once : (t : QueryTree P) (es : List Entry) → Explores P limit t es → AllPairs Differ es
    found_once t es (stepped t' v ks st x) = found_once v ks x
    found_once t es (heavy t' w) = all_pairs_none Differ
    found_once t es (dead t' d) = all_pairs_none Differ
    found_once t es (ended t' o w a) = AllPairs-cons Differ (entry t' o) [] (all_none (Differ (entry t' o))) (all_pairs_none Differ)
    found_once t es (forked t' cs ks shut any distinct each x) = found_split_once t' cs ks x distinct

    found_split_once : (t : QueryTree P) (cs : List ℕ) (es : List Entry) → ExploresSplits P limit t cs es → AllPairs (λ c d. c ≢ d) cs → AllPairs Differ es
    found_split_once t cs es (none t') distinct = all_pairs_none Differ
    found_split_once t cs es (more t' n d ds ks js sp x y) distinct =
        all_pairs_join Differ ks js (found_once n ks x) (found_split_once t' ds js y (all_pairs_rest (λ c d. c ≢ d) d ds distinct))
        (splits_differ t' n d ds ks js sp (all_pairs_first (λ c d. c ≢ d) d ds distinct) (only_found n ks x) (only_found_split t' ds js y))

-- What is found from the query are the entries within the limit.
pub explored_entries : (P : Program) (limit : ℕ) (es : List Entry) → Explores P limit (blank (query_agenda P)) es → (e : Entry)
    → Contains es e ↔ IsWithin P limit e
explored_entries P limit es x e = (
  λ i. let r = only_found P limit (blank (query_agenda P)) es x e i in (r.0, r.1, r.2, r.3),
  λ r. subst (λ y. Contains es y) (ap (λ c. record { code = c; outcome = e.outcome }) r.1)
      (found P limit r.0 e.outcome r.2 r.3 (blank (query_agenda P)) es x (blank_below r.0)),
)
