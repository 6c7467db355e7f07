-- A Shut tree on the stack, replaced by its splits that fit, told by their clauses alone.
use Rattle.std.proofs.Common.{ℕ, ◌≡◌, ◌+◌, ◌<◌, ◌≤◌, ◌↔◌, Bool, true, false, ◌||◌, List, [], ◌∷◌, ◌++◌}
use Rattle.std.proofs.Common.{length, suc, refl, ap, sym, subst, inl, inr, ◌⊎◌, arith, AllPairs, Contains, get_or}
use Rattle.std.proofs.lemmas.Bool.{cases_lt}
use Rattle.std.proofs.lemmas.List.Elements.{All-contains}
use Rattle.std.proofs.lemmas.List.Elements.{All-contains_itself}
use Rattle.std.proofs.lemmas.List.Kept.{AllPairs-cons}
use Rattle.and_model.specs.Programs.{Program}
use Rattle.and_model.specs.Trees.{QueryTree, Open, path, call_of, reduce, weight}
use Rattle.and_model.specs.Reached.{CandidateOf, Shut, Split, SplitClauses}
use Rattle.and_model.specs.Listing.{Entry}
use Rattle.and_laws.proofs.Deciding.{candidate_or, of_bounds}
use Rattle.and_laws.proofs.Listings.{closed_alike}
use Rattle.and_laws.proofs.Numbering.{Listed, listed}
use Rattle.and_laws.proofs.Ordered.{contains_first, contains_more, contains_none, contains_cases, same_elements}
use Rattle.and_laws.proofs.Pairwise.{all_pairs_none, all_pairs_first, all_pairs_rest}
use Rattle.and_laws.proofs.Picking.{candidate_falls}
use Rattle.and_laws.proofs.Splitting.{leftmost, leftmost_same, split_same}
use Rattle.and_walk_laws.specs.Walks.{Owes, SplitsThatFit, SplitsBy}
use Rattle.and_walk_laws.proofs.Owing.{owed_fork}

-- A Shut tree with open goals has its list of clauses.
pub some_clauses : {P : Program} (u : QueryTree P) → Shut u → Open u → (cs : List ℕ) × SplitClauses u cs
some_clauses {P} u shut any =
    let (es, gs, x, so, two) = shut in
    let (o, m) = leftmost u any in
    let A : ℕ → Type 0 = λ c. CandidateOf u es o c in
    let r : Listed A (suc (length P.clauses)) = listed A (λ c. candidate_or P es (path u o) (call_of u o) c) (suc (length P.clauses)) in (
      r.numbers,
      (
        r.rising,
        λ c. (
          λ h. let k = (r.has c h).0 in (reduce u o c k.0, (shut, es, gs, x, o, m, k.0, k, refl)),
          λ s. let sp = s.1 in
              let same : sp.4 ≡ o = leftmost_same u sp.4 o sp.5 m in
              let k : CandidateOf u sp.1 o c = subst (λ p. CandidateOf u sp.1 p c) same sp.7 in
              let k2 : A c = candidate_falls P es sp.1 (path u o) (call_of u o) c (closed_alike u es sp.1 gs sp.2 x sp.3).1 k in
              r.all c k2 (let b = of_bounds P (call_of u o) c k2.0 in omega (arith, b.1)),
        ),
      ),
    )

-- The trees of splits by the same clauses are the same.
splits_same : {P : Program} (u : QueryTree P) (cs : List ℕ) (ts us : List (QueryTree P)) → SplitsBy u cs ts → SplitsBy u cs us → ts ≡ us
splits_same u cs ts us (SplitsBy.no_more u') (SplitsBy.no_more u2) = refl
splits_same u cs ts us (SplitsBy.one_more u' v c ds vs sp x) (SplitsBy.one_more u2 w c2 ds2 ws sq y) =
    let a : v ≡ w = split_same u' v w c sp sq in
    let b : vs ≡ ws = splits_same u' ds vs ws x y in
    cc

same_cut : (a b : Bool) → (a ≡ true → b ≡ true) → (b ≡ true → a ≡ true) → a ≡ b
same_cut true b f g = sym (f refl)
same_cut false true f g = g refl
same_cut false false f g = refl

module _ {P : Program} (limit : ℕ) (u : QueryTree P) where
  -- Of the splits by a list of clauses, those that fit, with their clauses.
  record Fitting (all : List ℕ) : Type 0 where
    pub clauses : List ℕ
    pub trees : List (QueryTree P)
    pub cut : Bool
    pub splits : SplitsThatFit P limit u all trees cut
    pub made : SplitsBy u clauses trees
    pub rising : AllPairs (λ (c d : ℕ). c < d) clauses
    pub has : (c : ℕ) → Contains clauses c → Contains all c × ((next : QueryTree P) × Split u c next × (weight next ≤ limit))
    pub whole : (c : ℕ) → Contains all c → (next : QueryTree P) → Split u c next → weight next ≤ limit → Contains clauses c
    pub cut_why : cut ≡ true → (c : ℕ) × (next : QueryTree P) × Split u c next × (limit < weight next)
    pub cut_where : (c : ℕ) → Contains all c → (next : QueryTree P) → Split u c next → limit < weight next → cut ≡ true

  -- a split that is heavy and fits
  not_both : (c d : ℕ) (v w : QueryTree P) → Split u c v → Split u d w → d ≡ c → weight v ≤ limit → limit < weight w → ⊥
  not_both c d v w sp sq e small big =
      let same : w ≡ v = split_same u w v c (subst (λ z. Split u z w) e sq) sp in
      let weighs : weight w ≡ weight v = ap (λ z. weight z) same in
      absurd (omega (arith, small, big, weighs))

  fitting : (all : List ℕ) → AllPairs (λ (c d : ℕ). c < d) all → ((c : ℕ) → Contains all c → (next : QueryTree P) × Split u c next)
      → Fitting all
  fitting [] r each = record {
    clauses = [];
    trees = [];
    cut = false;
    splits = SplitsThatFit.no_more u;
    made = SplitsBy.no_more u;
    rising = all_pairs_none (λ (c d : ℕ). c < d);
    has = λ c h. absurd (contains_none c h);
    whole = λ c h. absurd (contains_none c h);
    cut_why = λ e. absurd (cc);
    cut_where = λ c h. absurd (contains_none c h);
  }
  fitting (c ∷ cs) r each = go (each c (contains_first c cs)) (fitting cs (all_pairs_rest (λ (c d : ℕ). c < d) c cs r)
      (λ d h. each d (contains_more c d cs h)))
    where
      add : (next : QueryTree P) → Split u c next → Fitting cs → (limit < weight next) ⊎ (weight next ≤ limit) → Fitting (c ∷ cs)
      add next sp x (inl heavy) = record {
        clauses = x.clauses;
        trees = x.trees;
        cut = true;
        splits = SplitsThatFit.too_heavy u next c cs x.trees x.cut sp heavy x.splits;
        made = x.made;
        rising = x.rising;
        has = λ d h. let k = x.has d h in (contains_more c d cs k.0, k.1);
        whole = λ d h n sq small. elim (contains_cases c d cs h) [
          | inl e ↦ absurd (not_both d c n next sq sp (sym e) small heavy)
          | inr i ↦ x.whole d i n sq small
        ];
        cut_why = λ e. (c, next, sp, heavy);
        cut_where = λ d h n sq big. refl;
      }
      add next sp x (inr light) = let R : ℕ → ℕ → Type 0 = λ c d. c < d in record {
        clauses = c ∷ x.clauses;
        trees = next ∷ x.trees;
        cut = x.cut;
        splits = SplitsThatFit.light u next c cs x.trees x.cut sp light x.splits;
        made = SplitsBy.one_more u next c x.clauses x.trees sp x.made;
        rising = AllPairs-cons R c x.clauses
            (λ k d h. All-contains (R c) cs (get_or x.clauses k d) (all_pairs_first R c cs r)
            (x.has (get_or x.clauses k d) (All-contains_itself x.clauses k d h)).0)
            x.rising;
        has = λ d h. elim (contains_cases c d x.clauses h) [
          | inl e ↦ subst (λ (z : ℕ). Contains (c ∷ cs) z × ((n : QueryTree P) × Split u z n × (weight n ≤ limit))) (sym e)
              (contains_first c cs, (next, sp, light))
          | inr i ↦ let k = x.has d i in (contains_more c d cs k.0, k.1)
        ];
        whole = λ d h n sq small. elim (contains_cases c d cs h) [
          | inl e ↦ subst (λ (z : ℕ). Contains (c ∷ x.clauses) z) (sym e) (contains_first c x.clauses)
          | inr i ↦ contains_more c d x.clauses (x.whole d i n sq small)
        ];
        cut_why = x.cut_why;
        cut_where = λ d h n sq big. elim (contains_cases c d cs h) [
          | inl e ↦ absurd (not_both c d next n sp sq e light big)
          | inr i ↦ x.cut_where d i n sq big
        ];
      }

      go : ((next : QueryTree P) × Split u c next) → Fitting cs → Fitting (c ∷ cs)
      go s x = add s.0 s.1 x (cases_lt limit (weight s.0))

-- So the top, a Shut tree with open goals, may be replaced by the splits by all clauses that fit.
pub owed_fitting : (P : Program) (limit : ℕ) (t u : QueryTree P) (cs : List ℕ) (ts stack : List (QueryTree P)) (es : List Entry) (f m : ℕ)
    (b d : Bool)
    → Owes P limit t (u ∷ stack) es f m b → Shut u → Open u → AllPairs (λ (c d : ℕ). c < d) cs
    → ((c : ℕ) → Contains cs c ↔ ((next : QueryTree P) × Split u c next × (weight next ≤ limit))) → SplitsBy u cs ts
    → ((d ≡ true) ↔ ((c : ℕ) × (next : QueryTree P) × Split u c next × (limit < weight next)))
    → Owes P limit t (ts ++ stack) es (f + 1) m (b || d)
owed_fitting P limit t u cs ts stack es f m b d o s any rising each made cut =
    let (all, v) = some_clauses u s any in
    let r : Fitting limit u all = fitting limit u all v.0 (λ c h. (v.1 c).0 h) in
    let clauses : r.clauses ≡ cs = same_elements (λ (c d : ℕ). c < d) (λ c d h k. absurd (omega (arith, h, k))) r.clauses cs r.rising rising
    (λ c h. (each c).1 (r.has c h).1) (λ c h. let k = (each c).0 h in r.whole c ((v.1 c).1 (k.0, k.1)) k.0 k.1 k.2) in
    let trees : r.trees ≡ ts = splits_same u cs r.trees ts (subst (λ z. SplitsBy u z r.trees) clauses r.made) made in
    let cuts : r.cut ≡ d = same_cut r.cut d (λ e. cut.1 (r.cut_why e))
    (λ e. let k = cut.0 e in r.cut_where k.0 ((v.1 k.0).1 (k.1, k.2)) k.1 k.2 k.3) in
    let fit : SplitsThatFit P limit u all ts d = subst (λ z. SplitsThatFit P limit u all z d) trees
    (subst (λ z. SplitsThatFit P limit u all r.trees z) cuts r.splits) in
    owed_fork P limit t u all ts stack es f m b d o s any v fit
