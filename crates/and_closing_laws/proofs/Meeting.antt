-- What was put together of a phase: all that the workers did was met in the tree, once.
use Rattle.std.proofs.Common.{ℕ, ◌≡◌, ◌≢◌, ◌<◌, ◌≤◌, ◌+◌, List, [], ◌∷◌, ◌++◌, length, cond, eq-eqb, ne_eqb}
use Rattle.std.proofs.Common.{AllPairs, Contains, IsPermutation, refl, ap, sym, ◌∙◌, subst, inl, inr, arith}
use Rattle.std.specs.Prelude.{sum_by}
use Rattle.std.proofs.lemmas.Bool.{cases_eq, cases_lt}
use Rattle.std.proofs.lemmas.List.{length-append}
use Rattle.std.proofs.lemmas.List.Elements.{All-contains, Contains-append_left, Contains-append_right, Contains-append_cases}
use Rattle.std.proofs.lemmas.List.Kept.{AllPairs-cons}
use Rattle.std.proofs.lemmas.List.Sorted.{sum_by-IsPermutation, Contains-permutation, IsPermutation-sym, IsPermutation-trans}
use Rattle.std.proofs.lemmas.List.Sorted.{IsPermutation-refl, IsPermutation-cons, IsPermutation-middle}
use Rattle.std.proofs.lemmas.List.Sums.{sum_by-cons, sum_by-append}
use Rattle.and_model.specs.Programs.{Program, clause_at, clause_weight}
use Rattle.and_model.specs.declared.goal.Goal.{Goal}
use Rattle.and_model.specs.declared.goal.Reduction.{Reduction}
use Rattle.and_store_laws.proofs.Lists.{contains_first, contains_more, contains_cases, contains_none, contains_map, contains_flat, map_contains, flat_contains}
use Rattle.and_store_laws.proofs.Lists.{all_of, contains_split}
use Rattle.and_store_laws.proofs.Pairwise.{all_pairs_none, all_pairs_first, all_pairs_rest}
use Rattle.and_handed.specs.declared.told.Ran as run
use Rattle.and_handed.specs.declared.told.Reduced as making
use Rattle.and_handed.specs.declared.told.HandedOn.{HandedOn}
use Rattle.and_gathering.specs.Gathering.{AreOf, AreTiled, IsGathered, goal_taken, all_made, all_ran, made_by, ran_by}
use Rattle.and_gathering.specs.declared.gathering.Gathered.{Gathered}
use Rattle.and_gathering.specs.declared.links.Taken.{Taken}
use Rattle.and_gathering.specs.declared.links.Taken.TheVariants.{Reduced, Ran}
use Rattle.and_code.specs.Written.{all_written}
use Rattle.and_closing_laws.proofs.Tiling.{Stand, weighs}
use Rattle.and_closing_laws.proofs.Walking.{Apart, AreApart, at_node, counts_itself, counts_less, counts_met, walked_apart}

-- ---- the reductions side by side

pub tiled_stand : (P : Program) (node : ℕ) (rs : List Reduction) (stop : ℕ) → AreTiled P node rs stop → Stand P node (all_written rs) stop
tiled_stand P node [] stop t = t
tiled_stand P node (r ∷ rs) stop t = (t.0, tiled_stand P (node + clause_weight (clause_at P r.clause.0)) rs stop t.1)

-- ---- sums that are nothing

sum_zero : {X : Type 0} (f : X → ℕ) (xs : List X) → ((x : X) → Contains xs x → f x ≡ 0) → sum_by f xs ≡ 0
sum_zero f [] none = refl
sum_zero f (x ∷ xs) none =
    let c = sum_by-cons f x xs in let a = none x (contains_first x xs) in let b = sum_zero f xs (λ y h. none y (contains_more x y xs h)) in omega arith

-- What all workers ran is arithmetic.
ran_is : (tolds : List HandedOn) (t : Taken) → Contains (all_ran tolds) t → (g : Goal) × (t ≡ Ran g)
ran_is tolds t h =
    let told = flat_contains ran_by t tolds h in let r = map_contains (λ (x : run.Ran). Ran x.goal) t told.0.ran.items told.2 in (r.0.goal, sym r.2)

-- ---- the steps

-- At a node there stands one step at most, and none before the first.
pub steps_once : (P : Program) (node : ℕ) (steps : List Taken) (rs : List Reduction) (stop : ℕ) → AreTiled P node rs stop → AreOf steps rs → (n : ℕ)
    → (sum_by (at_node n) steps ≤ 1) × (n < node → sum_by (at_node n) steps ≡ 0)
steps_once P node [] rs stop tiled of n = (omega arith, λ low. refl)
steps_once P node (Ran g ∷ steps) rs stop tiled of n = absurd of
steps_once P node (Reduced g r ∷ steps) [] stop tiled of n = absurd of
steps_once P node (Reduced g r ∷ steps) (s ∷ rs) stop tiled of n =
    let rest = steps_once P (node + clause_weight (clause_at P s.clause.0)) steps rs stop tiled.1 of.1 n in
    let some = weighs (clause_at P s.clause.0) in
    let c = sum_by-cons (at_node n) (Reduced g r) steps in
    let here : r.node ≡ node = ap (λ (x : Reduction). x.node) (sym of.0) ∙ tiled.0 in
    elim (cases_eq r.node n) [
      | inl e ↦ (let one : at_node n (Reduced g r) ≡ 1 = ap (λ (b : _). cond b 1 0) (eq-eqb r.node n e) in
          let none = rest.1 (omega arith) in (omega arith, λ low. absurd (omega arith)))
      | inr other ↦ (let zero : at_node n (Reduced g r) ≡ 0 = ap (λ (b : _). cond b 1 0) (ne_eqb r.node n other) in
          let low = rest.0 in (omega arith, λ before. let none = rest.1 (omega arith) in omega arith))
    ]

-- A step is one of the reductions, and each reduction is a step's.
pub step_made : (steps : List Taken) (rs : List Reduction) → AreOf steps rs → (g : Goal) (r : Reduction) → Contains steps (Reduced g r) → Contains rs r
step_made [] rs of g r h = absurd (contains_none (Reduced g r) h)
step_made (Ran k ∷ steps) rs of g r h = absurd of
step_made (Reduced k q ∷ steps) [] of g r h = absurd of
step_made (Reduced k q ∷ steps) (s ∷ rs) of g r h = elim (contains_cases (Reduced k q) (Reduced g r) steps h) [
  | inl is ↦ (let e : r ≡ q = cc in subst (Contains (s ∷ rs)) (of.0 ∙ sym e) (contains_first s rs))
  | inr there ↦ contains_more s r rs (step_made steps rs of.1 g r there)
]

pub made_step : (steps : List Taken) (rs : List Reduction) → AreOf steps rs → (r : Reduction) → Contains rs r → (g : Goal) × Contains steps (Reduced g r)
made_step [] rs of r h = absurd (contains_none r (subst (λ (l : List Reduction). Contains l r) of h))
made_step (Ran k ∷ steps) rs of r h = absurd of
made_step (Reduced k q ∷ steps) [] of r h = absurd of
made_step (Reduced k q ∷ steps) (s ∷ rs) of r h = elim (contains_cases s r rs h) [
  | inl is ↦ (k, subst (λ (x : Reduction). Contains (Reduced k q ∷ steps) (Reduced k x)) (sym (is ∙ of.0)) (contains_first (Reduced k q) steps))
  | inr there ↦ (let x = made_step steps rs of.1 r there in (x.0, contains_more (Reduced k q) (Reduced x.0 r) steps x.1))
]

no_run : (steps : List Taken) (rs : List Reduction) → AreOf steps rs → (h : Goal) → Contains steps (Ran h) → ⊥
no_run [] rs of h c = contains_none (Ran h) c
no_run (Ran k ∷ steps) rs of h c = absurd of
no_run (Reduced k q ∷ steps) [] of h c = absurd of
no_run (Reduced k q ∷ steps) (p ∷ rs) of h c = elim (contains_cases (Reduced k q) (Ran h) steps c) [
  | inl is ↦ absurd (cc)
  | inr there ↦ no_run steps rs of.1 h there
]

-- Where no two stand at one node, two that do are one.
pub one_at_node : (met : List Taken) → ((n : ℕ) → sum_by (at_node n) met ≤ 1) → (g h : Goal) (r s : Reduction) → Contains met (Reduced g r)
    → Contains met (Reduced h s) → r.node ≡ s.node → (g ≡ h) × (r ≡ s)
one_at_node [] once g h r s a b e = absurd (contains_none (Reduced g r) a)
one_at_node (t ∷ met) once g h r s a b e = elim (contains_cases t (Reduced g r) met a) [
  | inl is ↦ elim (contains_cases t (Reduced h s) met b) [
    | inl too ↦ (let both : ◌≡◌ {A = Taken} (Reduced g r) (Reduced h s) = is ∙ sym too in (cc, cc))
    | inr there ↦ (
        let c = counts_itself g r met in let d = counts_met h s r.node met there (sym e) in
        let f = subst (λ (u : Taken). sum_by (at_node r.node) (u ∷ met) ≤ 1) (sym is) (once r.node) in absurd (omega arith))
  ]
  | inr here ↦ elim (contains_cases t (Reduced h s) met b) [
    | inl too ↦ (
        let c = counts_itself h s met in let d = counts_met g r s.node met here e in
        let f = subst (λ (u : Taken). sum_by (at_node s.node) (u ∷ met) ≤ 1) (sym too) (once s.node) in absurd (omega arith))
    | inr there ↦ one_at_node met (λ n. let a = once n in let b = counts_less n t met in omega arith) g h r s here there e
  ]
]

-- ---- the arithmetic of what was taken

abbrev pub goals_run : List Taken → List Goal
goals_run [] = []
goals_run (Reduced g r ∷ met) = goals_run met
goals_run (Ran g ∷ met) = g ∷ goals_run met

is_ran : Taken → ℕ
is_ran (Reduced g r) = 0
is_ran (Ran g) = 1

goals_run_counted : (met : List Taken) → length (goals_run met) ≡ sum_by is_ran met
unfolding is_ran
goals_run_counted [] = refl
goals_run_counted (Reduced g r ∷ met) = let c = sum_by-cons is_ran (Reduced g r) met in let d = goals_run_counted met in omega arith
goals_run_counted (Ran g ∷ met) = let c = sum_by-cons is_ran (Ran g) met in let d = goals_run_counted met in omega arith

pub ran_listed : (met : List Taken) (g : Goal) → Contains met (Ran g) → Contains (goals_run met) g
ran_listed [] g h = absurd (contains_none (Ran g) h)
ran_listed (Reduced k r ∷ met) g h = elim (contains_cases (Reduced k r) (Ran g) met h) [
  | inl is ↦ absurd (cc)
  | inr there ↦ ran_listed met g there
]
ran_listed (Ran k ∷ met) g h = elim (contains_cases (Ran k) (Ran g) met h) [
  | inl is ↦ (let e : g ≡ k = cc in subst (Contains (k ∷ goals_run met)) (sym e) (contains_first k (goals_run met)))
  | inr there ↦ contains_more k g (goals_run met) (ran_listed met g there)
]

pub listed_ran : (met : List Taken) (g : Goal) → Contains (goals_run met) g → Contains met (Ran g)
listed_ran [] g h = absurd (contains_none g h)
listed_ran (Reduced k r ∷ met) g h = contains_more (Reduced k r) (Ran g) met (listed_ran met g h)
listed_ran (Ran k ∷ met) g h = elim (contains_cases k g (goals_run met) h) [
  | inl is ↦ subst (λ (x : Goal). Contains (Ran k ∷ met) (Ran x)) (sym is) (contains_first (Ran k) met)
  | inr there ↦ contains_more (Ran k) (Ran g) met (listed_ran met g there)
]

goals_run_once : (met : List Taken) → AllPairs (λ (s t : Taken). Apart (goal_taken s) (goal_taken t)) met → AllPairs (λ (g h : Goal). g ≢ h) (goals_run met)
goals_run_once [] pairs = all_pairs_none (λ (g h : Goal). g ≢ h)
goals_run_once (Reduced k r ∷ met) pairs = goals_run_once met (all_pairs_rest (λ (s t : Taken). Apart (goal_taken s) (goal_taken t)) (Reduced k r) met pairs)
goals_run_once (Ran k ∷ met) pairs =
    AllPairs-cons (λ (g h : Goal). g ≢ h) k (goals_run met)
    (all_of (λ (h : Goal). k ≢ h) (goals_run met) (λ h c e.
    All-contains (λ (t : Taken). Apart k (goal_taken t)) met (Ran h)
    (all_pairs_first (λ (s t : Taken). Apart (goal_taken s) (goal_taken t)) (Ran k) met pairs) (listed_ran met h c)
    (ap (λ (x : Goal). x.node) e) (ap (λ (x : Goal). x.item) e)))
    (goals_run_once met (all_pairs_rest (λ (s t : Taken). Apart (goal_taken s) (goal_taken t)) (Ran k) met pairs))

-- A list without doubles, whose elements are among those of one no longer, has just these.
pub permuted : {X : Type 0} (xs ys : List X) → AllPairs (λ (x y : X). x ≢ y) xs → ((x : X) → Contains xs x → Contains ys x) → length ys ≤ length xs
    → IsPermutation xs ys
permuted [] [] once sub short = IsPermutation-refl []
permuted [] (y ∷ ys) once sub short = absurd (omega arith)
permuted {X} (x ∷ xs) ys once sub short =
    let place = contains_split x ys (sub x (contains_first x xs)) in
    let front : List X = place.0 in
    let back : List X = place.1 in
    let long = length-append front (x ∷ back) in
    let long_too = length-append front back in
    let same : length ys ≡ length (front ++ x ∷ back) = ap (λ (l : List X). length l) place.2 in
    let rest : IsPermutation xs (front ++ back) = permuted xs (front ++ back) (all_pairs_rest (λ (a b : X). a ≢ b) x xs once) (λ y h.
    elim (Contains-append_cases front (x ∷ back) y (subst (λ (l : List X). Contains l y) place.2 (sub y (contains_more x y xs h)))) [
      | inl f ↦ Contains-append_left front back y f
      | inr b ↦ elim (contains_cases x y back b) [
        | inl is ↦ absurd (All-contains (λ (b : X). x ≢ b) xs y (all_pairs_first (λ (a b : X). a ≢ b) x xs once) h (sym is))
        | inr later ↦ Contains-append_right front back y later
      ]
    ]) (omega arith) in
    subst (IsPermutation (x ∷ xs)) (sym place.2)
    (IsPermutation-trans (x ∷ xs) (x ∷ (front ++ back)) (front ++ x ∷ back) (IsPermutation-cons x xs (front ++ back) rest)
    (IsPermutation-sym (front ++ x ∷ back) (x ∷ (front ++ back)) (IsPermutation-middle front x back)))

-- The arithmetic of what was met is that of what was taken.
pub goals_run_permuted : (xs met : List Taken) → IsPermutation xs met → AllPairs (λ (s t : Taken). Apart (goal_taken s) (goal_taken t)) met
    → IsPermutation (goals_run met) (goals_run xs)
goals_run_permuted xs met p pairs =
    let a = goals_run_counted met in let b = goals_run_counted xs in let c = sum_by-IsPermutation is_ran xs met p in
    permuted (goals_run met) (goals_run xs) (goals_run_once met pairs)
    (λ g h. ran_listed xs g (Contains-permutation met xs (Ran g) (IsPermutation-sym xs met p) (listed_ran met g h))) (omega arith)

pub goals_run_append : (xs ys : List Taken) → goals_run (xs ++ ys) ≡ goals_run xs ++ goals_run ys
goals_run_append [] ys = refl
goals_run_append (Reduced g r ∷ xs) ys = goals_run_append xs ys
goals_run_append (Ran g ∷ xs) ys = ap (λ (l : List Goal). g ∷ l) (goals_run_append xs ys)

steps_run_nothing : (steps : List Taken) (rs : List Reduction) → AreOf steps rs → goals_run steps ≡ []
steps_run_nothing [] rs of = refl
steps_run_nothing (Ran k ∷ steps) rs of = absurd of
steps_run_nothing (Reduced k q ∷ steps) [] of = absurd of
steps_run_nothing (Reduced k q ∷ steps) (p ∷ rs) of = steps_run_nothing steps rs of.1

-- ---- what was met

module _ (P : Program) (goals : List Goal) (used limit : ℕ) (tolds : List HandedOn) (g : Gathered) (q : IsGathered P goals used limit tolds g) where
  -- What a worker did was met.
  pub made_met : (t : HandedOn) (m : making.Reduced) → Contains tolds t → Contains t.made.items m → Contains q.met (Reduced m.goal m.reduction)
  made_met t m told made =
      let one : Taken = Reduced m.goal m.reduction in
      let among : Contains (all_made tolds) one =
      contains_flat made_by t one tolds told (contains_map (λ (x : making.Reduced). Reduced x.goal x.reduction) m t.made.items made) in
      Contains-permutation (q.steps ++ all_ran tolds) q.met one q.all
      (Contains-append_left q.steps (all_ran tolds) one (Contains-permutation (all_made tolds) q.steps one q.made among))

  pub ran_met : (t : HandedOn) (r : run.Ran) → Contains tolds t → Contains t.ran.items r → Contains q.met (Ran r.goal)
  ran_met t r told ran =
      Contains-permutation (q.steps ++ all_ran tolds) q.met (Ran r.goal) q.all
      (Contains-append_right q.steps (all_ran tolds) (Ran r.goal)
      (contains_flat ran_by t (Ran r.goal) tolds told (contains_map (λ (x : run.Ran). Ran x.goal) r t.ran.items ran)))

  -- A call that was met is that of a step,
  pub met_step : (k : Goal) (r : Reduction) → Contains q.met (Reduced k r) → Contains q.steps (Reduced k r)
  met_step k r h = elim (Contains-append_cases q.steps (all_ran tolds) (Reduced k r)
      (Contains-permutation q.met (q.steps ++ all_ran tolds) (Reduced k r) (IsPermutation-sym (q.steps ++ all_ran tolds) q.met q.all) h)) [
        | inl step ↦ step
        | inr ran ↦ (let is = ran_is tolds (Reduced k r) ran in let e : ◌≡◌ {A = Taken} (Reduced k r) (Ran is.0) = is.1 in absurd (cc))
      ]

  pub step_met : (k : Goal) (r : Reduction) → Contains q.steps (Reduced k r) → Contains q.met (Reduced k r)
  step_met k r h = Contains-permutation (q.steps ++ all_ran tolds) q.met (Reduced k r) q.all (Contains-append_left q.steps (all_ran tolds) (Reduced k r) h)

  -- and some worker's.
  pub met_made : (k : Goal) (r : Reduction) → Contains q.met (Reduced k r)
      → (t : HandedOn) × (m : making.Reduced) × Contains tolds t × Contains t.made.items m × (m.goal ≡ k) × (m.reduction ≡ r)
  met_made k r h =
      let step = Contains-permutation q.steps (all_made tolds) (Reduced k r) (IsPermutation-sym (all_made tolds) q.steps q.made) (met_step k r h) in
      let t = flat_contains made_by (Reduced k r) tolds step in
      let m = map_contains (λ (x : making.Reduced). Reduced x.goal x.reduction) (Reduced k r) t.0.made.items t.2 in
      let e : ◌≡◌ {A = Taken} (Reduced m.0.goal m.0.reduction) (Reduced k r) = m.2 in
      (t.0, m.0, t.1, m.1, cc, cc)

  -- At a node there stands one at most, and none before the end of the opening.
  nodes : (n : ℕ) → (sum_by (at_node n) q.met ≤ 1) × (n < used → sum_by (at_node n) q.met ≡ 0)
  nodes n =
      let a = steps_once P used q.steps g.made g.end q.tiled q.reductions n in
      let b = sum_by-IsPermutation (at_node n) (q.steps ++ all_ran tolds) q.met q.all in
      let c = sum_by-append (at_node n) q.steps (all_ran tolds) in
      let d = sum_zero (at_node n) (all_ran tolds) (λ t h. let is = ran_is tolds t h in ap (at_node n) is.1) in
      let low = a.0 in
      (omega arith, λ before. let none = a.1 before in omega arith)

  pub one_met : (k h : Goal) (r s : Reduction) → Contains q.met (Reduced k r) → Contains q.met (Reduced h s) → r.node ≡ s.node → (k ≡ h) × (r ≡ s)
  one_met = one_at_node q.met (λ n. (nodes n).0)

  pub met_from : (k : Goal) (r : Reduction) → Contains q.met (Reduced k r) → used ≤ r.node
  met_from k r h = elim (cases_lt r.node used) [
    | inl low ↦ (let a = (nodes r.node).1 low in let b = counts_met k r r.node q.met h refl in absurd (omega arith))
    | inr high ↦ high
  ]

  -- Where the goals of the opening are apart, so are all.
  pub all_apart : AllPairs Apart goals → ((x : Goal) → Contains goals x → x.node < used) → AreApart g.goals.items q.met
  all_apart pairs old =
      walked_apart P q.walks pairs (record { once = λ n. (nodes n).0; new = λ x h. (nodes x.node).1 (old x h) })

  -- The arithmetic that was met is what the workers ran.
  pub goals_run_are : AreApart g.goals.items q.met → IsPermutation (goals_run q.met) (goals_run (all_ran tolds))
  goals_run_are apart =
      let e : goals_run (q.steps ++ all_ran tolds) ≡ goals_run (all_ran tolds) =
      goals_run_append q.steps (all_ran tolds) ∙ ap (λ (l : List Goal). l ++ goals_run (all_ran tolds)) (steps_run_nothing q.steps g.made q.reductions) in
      subst (IsPermutation (goals_run q.met)) e (goals_run_permuted (q.steps ++ all_ran tolds) q.met q.all apart.of_met)
