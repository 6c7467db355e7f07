-- Where nothing was cut off, and all forks that were counted stand in the history, these are the forks of the query.
use Rattle.std.proofs.Common.{ℕ, ◌≡◌, ◌≤◌, Bool, true, false, ◌&&◌, List, [], ◌∷◌, ◌++◌, length, length-append, refl, sym, ap, ◌∙◌, subst}
use Rattle.std.proofs.Common.{inl, inr, ◌⊎◌, true≢false, arith, AllPairs, Contains}
use Rattle.std.specs.Prelude.{nat_eq}
use Rattle.std.specs.Cmp.Lexicographic.{pointwise, bytes_decides}
use Rattle.std.proofs.lemmas.Bool.{cases_lt}
use Rattle.std.proofs.lemmas.List.Elements.{All-contains, Contains-append_left, Contains-append_right, Contains-append_cases}
use Rattle.and_model.specs.Programs.{Program}
use Rattle.and_model.specs.Trees.{Agenda, Tree, QueryTree, query_agenda, blank, IsWhole, Open, decided, weight}
use Rattle.and_model.specs.Reached.{Step, Shut, Dead, Split, Steps, ReachedBy, SplitClauses, Fork, Forks, ForksOfSplits}
use Rattle.and_model.specs.Listing.{Outcome, Ends, Entry}
use Rattle.and_model.proofs.CodeOrder.{precedes_asymmetric}
use Rattle.and_model.proofs.Tested.{first_true, second_true}
use Rattle.and_laws.specs.CodeOrder.{Rises}
use Rattle.and_laws.proofs.Agreeing.{two_ends, one_shut}
use Rattle.and_laws.proofs.Counting.{split_clauses_same}
use Rattle.and_laws.proofs.ForkOrder.{forks_rise}
use Rattle.and_laws.proofs.Order.{whole_has_none}
use Rattle.and_laws.proofs.Ordered.{contains_first, contains_more, contains_none, contains_cases}
use Rattle.and_laws.proofs.Pairwise.{all_pairs_first, all_pairs_rest}
use Rattle.and_laws.proofs.Splitting.{split_same}
use Rattle.and_histories.specs.PlainTree.{Event}
use Rattle.and_histories.specs.Histories.{HistoryEntry}
use Rattle.and_walk_laws.specs.Walks.{Walks, WalksSplits}
use Rattle.and_team_laws.specs.Owed.{SameItems}
use Rattle.and_team_laws.specs.Done.{IsForkedBy, Did, DidAll, forks_in, forks_of}
use Rattle.and_team_laws.proofs.Bools.{or_neither}
use Rattle.and_team_laws.proofs.Counted.{same_contained, as_long}
use Rattle.and_team_laws.proofs.Passing.{passes_by}

-- ---- lists in a strict order

-- Of two lists in a strict order that have as many items, where the one has all of the other, both are the same.
module _ {X : Type 0} (R : X → X → Type 0) (strict : (x y : X) → R x y → R y x → ⊥) where
  -- (what is not the first of a list in which it stands is among the rest)
  rest_holds : (x y : X) (xs ys : List X) → AllPairs R (x ∷ xs) → x ≡ y → ((z : X) → Contains (x ∷ xs) z → Contains (y ∷ ys) z)
      → (z : X) → Contains xs z → Contains ys z
  rest_holds x y xs ys r e f z h = elim (contains_cases y z ys (f z (contains_more x z xs h))) [
    | inl s ↦
        (let after : R x z = All-contains (R x) xs z (all_pairs_first R x xs r) h in
        let itself : R x x = subst (λ w. R x w) (s ∙ sym e) after in
        absurd (strict x x itself itself))
    | inr i ↦ i
  ]

  -- (where the first of the one is behind the first of the other, so are all)
  all_behind : (x y : X) (xs ys : List X) → AllPairs R (x ∷ xs) → AllPairs R (y ∷ ys) → Contains ys x
      → ((z : X) → Contains (x ∷ xs) z → Contains (y ∷ ys) z) → (z : X) → Contains (x ∷ xs) z → Contains ys z
  all_behind x y xs ys r s i f z h = elim (contains_cases y z ys (f z h)) [
    | inr j ↦ j
    | inl e ↦ elim (contains_cases x z xs h) [
      | inl same ↦ subst (λ w. Contains ys w) (sym same) i
      | inr j ↦
          (let above : R y x = All-contains (R y) ys x (all_pairs_first R y ys s) i in
          let below : R x z = All-contains (R x) xs z (all_pairs_first R x xs r) j in
          absurd (strict x y (subst (λ w. R x w) e below) above))
    ]
  ]

  no_longer : (xs ys : List X) → AllPairs R xs → AllPairs R ys → ((z : X) → Contains xs z → Contains ys z) → length xs ≤ length ys
  no_longer [] ys r s f = omega arith
  no_longer (x ∷ xs) [] r s f = absurd (contains_none x (f x (contains_first x xs)))
  no_longer (x ∷ xs) (y ∷ ys) r s f = elim (contains_cases y x ys (f x (contains_first x xs))) [
    | inl e ↦
        (let rest = no_longer xs ys (all_pairs_rest R x xs r) (all_pairs_rest R y ys s) (rest_holds x y xs ys r e f) in
        omega arith)
    | inr i ↦ (let rest = no_longer (x ∷ xs) ys r (all_pairs_rest R y ys s) (all_behind x y xs ys r s i f) in omega arith)
  ]

  pub all_of_them : (xs ys : List X) → AllPairs R xs → AllPairs R ys → ((z : X) → Contains xs z → Contains ys z) → length ys ≤ length xs
      → xs ≡ ys
  all_of_them [] [] r s f many = refl
  all_of_them [] (y ∷ ys) r s f many = absurd (omega arith)
  all_of_them (x ∷ xs) [] r s f many = absurd (contains_none x (f x (contains_first x xs)))
  all_of_them (x ∷ xs) (y ∷ ys) r s f many = elim (contains_cases y x ys (f x (contains_first x xs))) [
    | inl e ↦
        (let rest : xs ≡ ys = all_of_them xs ys (all_pairs_rest R x xs r) (all_pairs_rest R y ys s) (rest_holds x y xs ys r e f) (omega arith) in
        cc)
    | inr i ↦ absurd (let more = no_longer (x ∷ xs) ys r (all_pairs_rest R y ys s) (all_behind x y xs ys r s i f) in omega arith)
  ]

-- ---- forks are told apart

abbrev is_fork : Fork → Fork → Bool
is_fork x y = (pointwise nat_eq x.key y.key && pointwise nat_eq x.decided y.decided) && pointwise nat_eq x.candidates y.candidates

same_fork : (x y : Fork) → is_fork x y ≡ true → x ≡ y
same_fork x y is =
    let front = first_true (pointwise nat_eq x.key y.key && pointwise nat_eq x.decided y.decided) (pointwise nat_eq x.candidates y.candidates) is in
    let keys : x.key ≡ y.key =
    (bytes_decides x.key y.key).0 (first_true (pointwise nat_eq x.key y.key) (pointwise nat_eq x.decided y.decided) front) in
    let longer : x.decided ≡ y.decided =
    (bytes_decides x.decided y.decided).0 (second_true (pointwise nat_eq x.key y.key) (pointwise nat_eq x.decided y.decided) front) in
    let clauses : x.candidates ≡ y.candidates = (bytes_decides x.candidates y.candidates).0
    (second_true (pointwise nat_eq x.key y.key && pointwise nat_eq x.decided y.decided) (pointwise nat_eq x.candidates y.candidates) is) in
    λ i. record { key = keys i; decided = longer i; candidates = clauses i }

own_fork : (x : Fork) → is_fork x x ≡ true
own_fork x =
    ap (λ b. (b && pointwise nat_eq x.decided x.decided) && pointwise nat_eq x.candidates x.candidates) ((bytes_decides x.key x.key).1 refl)
    ∙ ap (λ b. b && pointwise nat_eq x.candidates x.candidates) ((bytes_decides x.decided x.decided).1 refl)
    ∙ (bytes_decides x.candidates x.candidates).1 refl

rises_strict : (x y : Fork) → Rises x y → Rises y x → ⊥
rises_strict x y p q = precedes_asymmetric x.key y.key p q

-- ---- the forks that a walk meets

-- A tree that ends is Shut.
ends_shut : {P : Program} (t : QueryTree P) (o : Outcome) → Ends t o → Shut t
ends_shut t o a = (a.1, a.2, a.3, (a.4, a.5.0), λ p. absurd (whole_has_none t a.0 p))

-- A Step before Steps makes Steps,
step_then : {P : Program} {ag : Agenda} (t u v : Tree P ag) → Step t u → Steps u v → Steps t v
step_then t u v st (Steps.none v') = Steps.more t t v' (Steps.none t) st
step_then t u v st (Steps.more u' x n ss s) = Steps.more t x n (step_then t u' x st ss) s

-- and keeps the forks.
forks_before : {P : Program} {ag : Agenda} (t u : Tree P ag) (key : List ℕ) (fs : List Fork) → Step t u → Forks u key fs → Forks t key fs
forks_before t u key fs st (Forks.ended u' stop key' ss e) = Forks.ended t stop key' (step_then t u' stop st ss) e
forks_before t u key fs st (Forks.forked u' stop key' cs gs ss x o v k) = Forks.forked t stop key' cs gs (step_then t u' stop st ss) x o v k

module _ (P : Program) (limit : ℕ) where
  abbrev query : QueryTree P
  query = blank (query_agenda P)

  -- A walk that is not cut meets all forks of the tree.
  record Met (t : QueryTree P) (key : List ℕ) (f : ℕ) : Type 0 where
    pub forks : List Fork
    pub are : Forks t key forks
    pub as_many : length forks ≡ f

  record MetOfSplits (t : QueryTree P) (cs : List ℕ) (f : ℕ) : Type 0 where
    pub forks : List Fork
    pub are : ForksOfSplits t cs forks
    pub as_many : length forks ≡ f

  mutual
    met : (t : QueryTree P) (es : List Entry) (f m : ℕ) (b : Bool) → Walks P limit t es f m b → b ≡ false → (key : List ℕ) → Met t key f
    met t es f m b (Walks.stepped t' v ks g n d st w) e key =
        let r : Met v key g = met v ks g n d w e key in
        record { forks = r.forks; are = forks_before t' v key r.forks st r.are; as_many = r.as_many }
    met t es f m b (Walks.over t' v st h) e key = absurd (true≢false e)
    met t es f m b (Walks.dead t' x) e key = record { forks = []; are = Forks.ended t' t' key (Steps.none t') (inl x); as_many = refl }
    met t es f m b (Walks.ended t' o h a) e key =
        record { forks = []; are = Forks.ended t' t' key (Steps.none t') (inr (ends_shut t' o a, a.0)); as_many = refl }
    met t es f m b (Walks.forked t' cs ks g n d s o v w) e key =
        let r : MetOfSplits t' cs g = met_of_splits t' cs ks g n d w e in
        record {
          forks = record { key = key; decided = decided t'; candidates = cs } ∷ r.forks;
          are = Forks.forked t' t' key cs r.forks (Steps.none t') s o v r.are;
          as_many = omega (arith, r.as_many);
        }

    met_of_splits : (t : QueryTree P) (cs : List ℕ) (es : List Entry) (f m : ℕ) (b : Bool) → WalksSplits P limit t cs es f m b → b ≡ false
        → MetOfSplits t cs f
    met_of_splits t cs es f m b (WalksSplits.no_more t') e = record { forks = []; are = ForksOfSplits.none t'; as_many = refl }
    met_of_splits t cs es f m b (WalksSplits.walked t' v c ds ks js f1 m1 f2 m2 b1 b2 sp w x) e =
        let both = or_neither b1 b2 e in
        let r : Met v (decided t' ++ c ∷ []) f1 = met v ks f1 m1 b1 w both.0 (decided t' ++ c ∷ []) in
        let q : MetOfSplits t' ds f2 = met_of_splits t' ds js f2 m2 b2 x both.1 in
        record {
          forks = r.forks ++ q.forks;
          are = ForksOfSplits.more t' v c ds r.forks q.forks sp r.are q.are;
          as_many = omega (arith, length-append r.forks q.forks, r.as_many, q.as_many);
        }
    met_of_splits t cs es f m b (WalksSplits.too_heavy t' v c ds js f2 m2 b2 sp h x) e = absurd (true≢false e)

  -- ---- the forks of reached trees are among them

  -- A tree, and its forks among all.
  record Among (all : List Fork) (t : QueryTree P) (key : List ℕ) : Type 0 where
    pub root : QueryTree P
    pub steps : Steps root t
    pub forks : List Fork
    pub are : Forks root key forks
    pub within : (x : Fork) → Contains forks x → Contains all x

  of_split : (all : List Fork) (t : QueryTree P) (cs : List ℕ) (fs : List Fork) → ForksOfSplits t cs fs
      → ((x : Fork) → Contains fs x → Contains all x) → (c : ℕ) → Contains cs c → (next : QueryTree P) → Split t c next
      → Among all next (decided t ++ c ∷ [])
  of_split all t cs fs (ForksOfSplits.none t') within c has next split = absurd (contains_none c has)
  of_split all t cs fs (ForksOfSplits.more t' v d ds ks js sp x rest) within c has next split = elim (contains_cases d c ds has) [
    | inl e ↦
        (let same : v ≡ next = split_same t' v next c (subst (λ z. Split t' z v) (sym e) sp) split in
        record {
          root = next;
          steps = Steps.none next;
          forks = ks;
          are = subst (λ z. Forks next (decided t' ++ z ∷ []) ks) (sym e) (subst (λ z. Forks z (decided t' ++ d ∷ []) ks) same x);
          within = λ y h. within y (Contains-append_left ks js y h);
        })
    | inr i ↦ of_split all t' ds js rest (λ y h. within y (Contains-append_right ks js y h)) c i next split
  ]

  -- what the forks of a tree are where its Steps lead to a Shut tree with open goals
  record Opened (t : QueryTree P) (key : List ℕ) (fs : List Fork) : Type 0 where
    pub clauses : List ℕ
    pub others : List Fork
    pub all : SplitClauses t clauses
    pub behind : ForksOfSplits t clauses others
    pub are : fs ≡ record { key = key; decided = decided t; candidates = clauses } ∷ others

  ended_not_open : (t d s : QueryTree P) → Steps t d → Dead d ⊎ (Shut d × IsWhole d) → Steps t s → Shut s → Open s → ⊥
  ended_not_open t d s a (inl x) b y o = two_ends t d s a x b y
  ended_not_open t d s a (inr x) b y o = whole_has_none s (subst (λ z. IsWhole z) (one_shut t d s a x.0 b y) x.1) o

  opened_at : (r t : QueryTree P) (key : List ℕ) (fs : List Fork) → Forks r key fs → Steps r t → Shut t → Open t → Opened t key fs
  opened_at r t key fs (Forks.ended r' stop key' ss e) st shut any = absurd (ended_not_open r' stop t ss e st shut any)
  opened_at r t key fs (Forks.forked r' stop key' cs gs ss x o v k) st shut any =
      let same : stop ≡ t = one_shut r' stop t ss x st shut in
      record {
        clauses = cs;
        others = gs;
        all = subst (λ z. SplitClauses z cs) same v;
        behind = subst (λ z. ForksOfSplits z cs gs) same k;
        are = ap (λ z. record { key = key'; decided = decided z; candidates = cs } ∷ gs) same;
      }

  -- The forks of the root of a key are among those of the query.
  reached_among : (all : List Fork) → Forks query [] all → (key : List ℕ) (t : QueryTree P) → ReachedBy P limit key t → Among all t key
  reached_among all of_query key t (ReachedBy.start h) =
      record { root = query; steps = Steps.none query; forks = all; are = of_query; within = λ x h. h }
  reached_among all of_query key t (ReachedBy.stepped k u v r st h) =
      let a : Among all u k = reached_among all of_query k u r in
      record { root = a.root; steps = Steps.more a.root u v a.steps st; forks = a.forks; are = a.are; within = a.within }
  reached_among all of_query key t (ReachedBy.divided k u c v r sp h) =
      let a : Among all u k = reached_among all of_query k u r in
      let o : Opened u k a.forks = opened_at a.root u k a.forks a.are a.steps sp.0 sp.4 in
      let first : Fork = record { key = k; decided = decided u; candidates = o.clauses } in
      of_split all u o.clauses o.others o.behind
      (λ x i. a.within x (subst (λ z. Contains z x) (sym o.are) (contains_more first x o.others i)))
      c ((o.all.1 c).1 (v, sp)) v sp

  -- Where no split is too heavy, those that fit are all.
  all_fit : (t : QueryTree P) (cs : List ℕ) → IsForkedBy P limit t cs false → SplitClauses t cs
  all_fit t cs is = (
    is.rising,
    λ c. (
      λ i. let k = (is.fitting c).0 i in (k.0, k.1),
      λ s. elim (cases_lt limit (weight s.0)) [
        | inl big ↦ absurd (true≢false (sym (is.heavy.1 (c, s.0, s.1, big))))
        | inr small ↦ (is.fitting c).1 (s.0, s.1, small)
      ],
    ),
  )

  fork_among : (all : List Fork) → Forks query [] all → (key : List ℕ) (t : QueryTree P) (cs : List ℕ) → ReachedBy P limit key t
      → IsForkedBy P limit t cs false → Contains all (record { key = key; decided = decided t; candidates = cs })
  fork_among all of_query key t cs reached is =
      let a : Among all t key = reached_among all of_query key t reached in
      let o : Opened t key a.forks = opened_at a.root t key a.forks a.are a.steps is.shut is.open_goal in
      let same : o.clauses ≡ cs = split_clauses_same t o.clauses cs o.all (all_fit t cs is) in
      let first : Fork = record { key = key; decided = decided t; candidates = o.clauses } in
      let here : Contains all first = a.within first (subst (λ z. Contains z first) (sym o.are) (contains_first first o.others)) in
      subst (λ z. Contains all (record { key = key; decided = decided t; candidates = z })) same here

  -- ---- the forks of a history

  event_among : (all : List Fork) → Forks query [] all → (event : Event) (es : List Entry) (f m : ℕ) (b : Bool) → Did P limit event es f m b
      → b ≡ false → (x : Fork) → Contains (forks_in event) x → Contains all x
  event_among all of_query event es f m b (Did.forked team key clauses t is_cut reached is) whole x h =
      let here : Fork = record { key = key; decided = decided t; candidates = clauses } in
      elim (contains_cases here x [] h) [
        | inl e ↦
            subst (λ z. Contains all z) (sym e)
            (fork_among all of_query key t clauses reached (subst (λ z. IsForkedBy P limit t clauses z) whole is))
        | inr none ↦ absurd (contains_none x none)
      ]
  event_among all of_query event es f m b (Did.told team key t e reached walks) whole x h = absurd (contains_none x h)
  event_among all of_query event es f m b (Did.ended team key t forks failed is_cut reached walks none) whole x h = absurd (contains_none x h)
  event_among all of_query event es f m b (Did.passed event' is) whole x h =
      absurd (contains_none x (subst (λ fs. Contains fs x) (passes_by event' is).0 h))

  -- Each fork of a history that was not cut off is one of those of the query.
  pub history_among : (all : List Fork) → Forks query [] all → (history : List HistoryEntry) (es : List Entry) (f m : ℕ) (b : Bool)
      → DidAll P limit history es f m b → b ≡ false → (x : Fork) → Contains (forks_of history) x → Contains all x
  history_among all of_query history es f m b DidAll.none whole x h = absurd (contains_none x h)
  history_among all of_query history es f m b (DidAll.more e rest ks others f1 m1 f2 m2 b1 b2 did y) whole x h =
      let both = or_neither b1 b2 whole in
      elim (Contains-append_cases (forks_in e.event) (forks_of rest) x h) [
        | inl i ↦ event_among all of_query e.event ks f1 m1 b1 did both.0 x i
        | inr i ↦ history_among all of_query rest others f2 m2 b2 y both.1 x i
      ]

  pub forks_ordered : (history : List HistoryEntry) (entries found : List Entry) (forks failed : ℕ)
      → DidAll P limit history entries forks failed false → Walks P limit query found forks failed false → forks ≡ length (forks_of history)
      → (ordered : List Fork) → SameItems (forks_of history) ordered → AllPairs Rises ordered → Forks query [] ordered
  forks_ordered history entries found forks failed did walks made ordered same rising =
      let r : Met query [] forks = met query found forks failed false walks refl [] in
      let up : AllPairs Rises r.forks = (forks_rise query [] r.forks (decided query, refl) r.are).1 in
      let are : ordered ≡ r.forks = all_of_them Rises rises_strict ordered r.forks rising up
      (λ x h. history_among r.forks r.are history entries forks failed false did refl x
      ((same_contained is_fork same_fork own_fork (forks_of history) ordered same x).0 h))
      (let long = as_long (forks_of history) ordered same in omega (arith, long, r.as_many, made)) in
      subst (λ fs. Forks query [] fs) (sym are) r.are
