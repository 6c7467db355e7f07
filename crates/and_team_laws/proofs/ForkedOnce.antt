-- No key is forked twice: a key comes into the tree once at most, and a fork takes it away.
use Rattle.std.proofs.Common.{ℕ, ◌+◌, ◌≡◌, ◌≢◌, ◌<◌, ◌≤◌, Bool, true, false, cond, List, [], ◌∷◌, ◌++◌, refl, sym, ap, ◌∙◌, subst, arith}
use Rattle.std.proofs.Common.{AllPairs, Contains, inl, inr}
use Rattle.std.specs.Prelude.{flat_map, sum_by, nat_eq}
use Rattle.std.specs.Cmp.Lexicographic.{pointwise, bytes_decides}
use Rattle.std.proofs.lemmas.Bool.{cases_lt}
use Rattle.std.proofs.lemmas.List.Sums.{sum_by-append, sum_by-cons}
use Rattle.std.proofs.lemmas.List.Elements.{All-map, All-weaker, Contains-append_cases}
use Rattle.std.proofs.lemmas.List.Kept.{AllPairs-cons}
use Rattle.and_model.specs.Programs.{Program}
use Rattle.and_model.specs.Trees.{QueryTree, decided}
use Rattle.and_model.specs.Reached.{ReachedBy, Fork}
use Rattle.and_model.specs.Listing.{Entry}
use Rattle.and_histories.specs.PlainTree.{Key, State, Event, fork, end, answered, retired, Reply, Does, Holds, opening, children, keys_left}
use Rattle.and_histories.specs.Histories.{HistoryEntry, Carries}
use Rattle.and_histories.proofs.CoveringForks.{opening_keys}
use Rattle.and_histories.proofs.KeptKeys.{keys_are_kept}
use Rattle.and_laws.proofs.Ordered.{contains_first, contains_more, contains_none, contains_cases}
use Rattle.and_laws.proofs.Pairwise.{all_none, all_pairs_none, all_pairs_first, all_pairs_rest}
use Rattle.and_laws.proofs.PrefixLemmas.{same_last, not_empty}
use Rattle.and_team_laws.specs.Done.{IsForkedBy, IsJustified, Did, DidAll, forks_in, forks_of}
use Rattle.and_team_laws.proofs.Counted.{counts_contains}
use Rattle.and_team_laws.proofs.Once.{Differ, at_item_key, once_counts, counts_once}
use Rattle.and_team_laws.proofs.OneFork.{one_fork}
use Rattle.and_team_laws.proofs.Passing.{passes_by}
use Rattle.and_team_laws.proofs.Walked.{is_held, held_counts, moves_none}

abbrev itself : Key → List ℕ
itself k = k

abbrev key_in : Fork → List ℕ
key_in x = x.key

-- the keys of the children of forks
abbrev born : List Fork → List Key
born fs = flat_map (λ (x : Fork). children x.decided x.candidates) fs

-- ---- what these lists contain

key_there : (k : Key) (ks : List Key) → 0 < sum_by (at_item_key itself k) ks → Contains ks k
key_there k ks some =
    counts_contains (pointwise nat_eq) (λ x y. (bytes_decides x y).0) (λ x. (bytes_decides x x).1 refl) k ks (omega (arith, some))

child_in : (longer : Key) (cs : List ℕ) (k : Key) → Contains (children longer cs) k → (c : ℕ) × Contains cs c × (k ≡ longer ++ c ∷ [])
child_in longer [] k h = absurd (contains_none k h)
child_in longer (c ∷ cs) k h = elim (contains_cases (longer ++ c ∷ []) k (children longer cs) h) [
  | inl e ↦ (c, contains_first c cs, e)
  | inr i ↦ (let r = child_in longer cs k i in (r.0, contains_more c r.0 cs r.1, r.2))
]

born_of : (fs : List Fork) (k : Key) → Contains (born fs) k → (x : Fork) × Contains fs x × Contains (children x.decided x.candidates) k
born_of [] k h = absurd (contains_none k h)
born_of (x ∷ fs) k h = elim (Contains-append_cases (children x.decided x.candidates) (born fs) k h) [
  | inl i ↦ (x, contains_first x fs, i)
  | inr i ↦ (let r = born_of fs k i in (r.0, contains_more x r.0 fs r.1, r.2))
]

forked_counts : (x : Fork) (fs : List Fork) → Contains fs x → 1 ≤ sum_by (at_item_key key_in x.key) fs
forked_counts x [] h = absurd (contains_none x h)
forked_counts x (y ∷ fs) h =
    let whole = sum_by-cons (at_item_key key_in x.key) y fs in
    elim (contains_cases y x fs h) [
      | inl e ↦
          (let one : at_item_key key_in x.key y ≡ 1 =
          ap (λ (z : Fork). at_item_key key_in x.key z) (sym e) ∙ ap (λ b. cond b 1 0) ((bytes_decides x.key x.key).1 refl) in
          omega arith)
      | inr i ↦ (let rest = forked_counts x fs i in omega arith)
    ]

children_apart : (longer : Key) (cs : List ℕ) → AllPairs (λ (c d : ℕ). c < d) cs → AllPairs (Differ itself) (children longer cs)
children_apart longer [] rising = all_pairs_none (Differ itself)
children_apart longer (c ∷ cs) rising =
    let apart : (d : ℕ) → c < d → longer ++ c ∷ [] ≢ longer ++ d ∷ [] =
    λ d less e. (let same = (same_last longer longer c d e).1 in absurd (omega (arith, less))) in
    AllPairs-cons (Differ itself) (longer ++ c ∷ []) (children longer cs)
    (All-map (λ (k : Key). longer ++ c ∷ [] ≢ k) (λ d. longer ++ d ∷ []) cs
    (All-weaker (λ d. c < d) (λ d. longer ++ c ∷ [] ≢ longer ++ d ∷ []) apart cs (all_pairs_first (λ (c d : ℕ). c < d) c cs rising)))
    (children_apart longer cs (all_pairs_rest (λ (c d : ℕ). c < d) c cs rising))

not_root : (longer k : Key) (c : ℕ) → k ≡ longer ++ c ∷ [] → at_item_key itself k [] ≡ 0
not_root longer k c is = by_test (pointwise nat_eq k []) refl
  where
    by_test : (b : Bool) → pointwise nat_eq k [] ≡ b → cond {A = ℕ} b 1 0 ≡ 0
    by_test true so = absurd (not_empty longer c (sym ((bytes_decides k []).0 so) ∙ is))
    by_test false so = refl

module _ (P : Program) (limit : ℕ) where
  -- These forks were made so far: the keys that are left and those that were forked are among the root and the children, of which no two are the same.
  record Once (s : State) (fs : List Fork) : Type 0 where
    pub kept : (f : Key → ℕ) → sum_by f (keys_left s) + sum_by (λ (x : Fork). f x.key) fs ≤ f [] + sum_by f (born fs)
    pub once : (k : Key) → at_item_key itself k [] + sum_by (at_item_key itself k) (born fs) ≤ 1
    pub each : (x : Fork) → Contains fs x → IsJustified P limit x

  -- A child of a tree whose key is in hand was not born before, since the tree was not forked before.
  not_born : (s : State) (fs : List Fork) → Once s fs → (team : ℕ) (key : Key) → Holds s team key → (t : QueryTree P) → ReachedBy P limit key t
      → (cs : List ℕ) (is_cut : Bool) → IsForkedBy P limit t cs is_cut → (k : Key) (c : ℕ) → k ≡ decided t ++ c ∷ []
      → sum_by (at_item_key itself k) (born fs) ≡ 0
  not_born s fs o team key held t reached cs is_cut is k c child = elim (cases_lt 0 (sum_by (at_item_key itself k) (born fs))) [
    | inr none ↦ omega (arith, none)
    | inl some ↦
        (let (x, i, h) = born_of fs k (key_there k (born fs) some) in
        let (d, _, e) = child_in x.decided x.candidates k h in
        let j : IsJustified P limit x = o.each x i in
        let longer : decided t ≡ decided j.tree = (same_last (decided t) x.decided c d (sym child ∙ e)).0 ∙ j.longer in
        let same : key ≡ x.key = one_fork P limit key x.key t j.tree reached j.reached is.shut j.splits.shut longer in
        let forked : 1 ≤ sum_by (at_item_key key_in key) fs = subst (λ z. 1 ≤ sum_by (at_item_key key_in z) fs) (sym same) (forked_counts x fs i) in
        let in_hand = held_counts s team key held in
        let kept = o.kept (at_item_key itself key) in
        let once = o.once key in
        absurd (omega arith))
  ]

  fork_once : (s next : State) (fs : List Fork) (team : ℕ) (key : Key) (t : QueryTree P) (cs : List ℕ) (is_cut : Bool) (reply : Reply)
      → Does s (fork team key (decided t) cs) reply next → ReachedBy P limit key t → IsForkedBy P limit t cs is_cut → Once s fs
      → Once next (record { key = key; decided = decided t; candidates = cs } ∷ fs)
  fork_once s next fs team key t cs is_cut reply does reached is o =
      let here : Fork = record { key = key; decided = decided t; candidates = cs } in
      let held : Holds s team key = is_held s next (fork team key (decided t) cs) reply does in
      record {
        kept = λ f.
            let moved = keys_are_kept f s next (fork team key (decided t) cs) reply does in
            let before = o.kept f in
            let one = sum_by-cons (λ (x : Fork). f x.key) here fs in
            let two = sum_by-append f (children (decided t) cs) (born fs) in
            omega arith;
        once = λ k.
            let whole = sum_by-append (at_item_key itself k) (children (decided t) cs) (born fs) in
            elim (cases_lt 0 (sum_by (at_item_key itself k) (children (decided t) cs))) [
              | inr none ↦ (let before = o.once k in omega (arith, none))
              | inl some ↦
                  (let (c, _, child) = child_in (decided t) cs k (key_there k (children (decided t) cs) some) in
                  let few = once_counts itself (children (decided t) cs) (children_apart (decided t) cs is.rising) k in
                  let before = not_born s fs o team key held t reached cs is_cut is k c child in
                  let root = not_root (decided t) k c child in
                  omega arith)
            ];
        each = λ x h. elim (contains_cases here x fs h) [
          | inl e ↦
              subst (λ (z : Fork). IsJustified P limit z) (sym e)
              (record { tree = t; is_cut = is_cut; reached = reached; longer = refl; splits = is })
          | inr i ↦ o.each x i
        ];
      }

  -- An event that forks nothing leaves no more keys than before.
  less_once : (s next : State) (fs : List Fork) → ((f : Key → ℕ) → sum_by f (keys_left next) ≤ sum_by f (keys_left s)) → Once s fs → Once next fs
  less_once s next fs fewer o = record { kept = λ f. omega (arith, fewer f, o.kept f); once = o.once; each = o.each }

  step_once : (s next : State) (fs : List Fork) (event : Event) (reply : Reply) → Does s event reply next
      → (es : List Entry) (f m : ℕ) (b : Bool) → Did P limit event es f m b → Once s fs → Once next (forks_in event ++ fs)
  step_once s next fs event reply does es f m b (Did.forked team key cs t is_cut reached is) o =
      fork_once s next fs team key t cs is_cut reply does reached is o
  step_once s next fs event reply does es f m b (Did.told team key t e reached walks) o =
      less_once s next fs (λ f. let kept = keys_are_kept f s next (end team key answered) reply does in omega arith) o
  step_once s next fs event reply does es f m b (Did.ended team key t forks failed is_cut reached walks none) o =
      less_once s next fs (λ f. let kept = keys_are_kept f s next (end team key retired) reply does in omega arith) o
  step_once s next fs event reply does es f m b (Did.passed event' is) o =
      subst (λ gs. Once next (gs ++ fs)) (sym (passes_by event' is).0)
      (less_once s next fs (λ f. let same = moves_none f s next event' reply is does in omega arith) o)

  all_once : (s after : State) (history : List HistoryEntry) → Carries s history after → (es : List Entry) (f m : ℕ) (b : Bool)
      → DidAll P limit history es f m b → (fs : List Fork) → Once s fs → (k : Key)
      → sum_by (at_item_key key_in k) fs + sum_by (at_item_key key_in k) (forks_of history) ≤ 1
  all_once s after history carried es f m b DidAll.none fs o k =
      let kept = o.kept (at_item_key itself k) in
      let once = o.once k in
      omega arith
  all_once s after history carried es f m b (DidAll.more e rest ks others f1 m1 f2 m2 b1 b2 did x) fs o k =
      let (next, does, on) = carried in
      let now : Once next (forks_in e.event ++ fs) = step_once s next fs e.event e.reply does ks f1 m1 b1 did o in
      let later = all_once next after rest on others f2 m2 b2 x (forks_in e.event ++ fs) now k in
      let one = sum_by-append (at_item_key key_in k) (forks_in e.event) fs in
      let two = sum_by-append (at_item_key key_in k) (forks_in e.event) (forks_of rest) in
      omega arith

  pub forked_once : (teams : ℕ) (history : List HistoryEntry) (s : State) (es : List Entry) (f m : ℕ) (b : Bool) → 0 < teams
      → Carries (opening teams) history s → DidAll P limit history es f m b → AllPairs (λ (x y : Fork). x.key ≢ y.key) (forks_of history)
  forked_once teams history s es f m b some carried did = counts_once key_in (forks_of history)
      (λ k. let few = all_once (opening teams) s history carried es f m b did [] start k in omega arith)
    where
      root_once : AllPairs (Differ itself) ([] ∷ [])
      root_once = AllPairs-cons (Differ itself) [] [] (all_none (λ (k : Key). [] ≢ k)) (all_pairs_none (Differ itself))

      start : Once (opening teams) []
      start = record {
        kept = λ f. let keys = ap (sum_by f) (opening_keys teams some) in omega arith;
        once = λ k. let few = once_counts itself ([] ∷ []) root_once k in omega arith;
        each = λ x h. absurd (contains_none x h);
      }
