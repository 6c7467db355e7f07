-- Walks over a tree's goals: where each goal that was met stands, and that none was met twice.
use Rattle.std.proofs.Common.{ℕ, zero, suc, ◌≡◌, ◌≢◌, ◌<◌, ◌≤◌, ◌+◌, ◌⊎◌, List, [], ◌∷◌, ◌++◌, map, All, AllPairs, Contains}
use Rattle.std.proofs.Common.{refl, ap, sym, ◌∙◌, subst, inl, inr, arith, cond, eqb, eq-eqb, get_or}
use Rattle.std.specs.Prelude.{sum_by}
use Rattle.std.proofs.lemmas.List.Elements.{All-contains, All-map, Contains-append_cases}
use Rattle.std.proofs.lemmas.List.Kept.{AllPairs-cons}
use Rattle.std.proofs.lemmas.List.Sums.{sum_by-cons}
use Rattle.and_model.specs.Programs.{Program, Item, call, equal, arithmetic, fail, clause_at}
use Rattle.and_model.specs.Terms.{Term}
use Rattle.and_model.specs.Stands.{Framed}
use Rattle.and_model.specs.declared.goal.Goal.{Goal}
use Rattle.and_model.specs.declared.goal.Reduction.{Reduction}
use Rattle.and_branch_laws.specs.Kept.{goal_of}
use Rattle.and_branch_laws.specs.Reducing.{body_goals, goal_at}
use Rattle.and_branch_laws.proofs.BodyGoals.{body_goals_all}
use Rattle.and_store_laws.proofs.Lists.{contains_first, contains_more, contains_cases, contains_none, all_of}
use Rattle.and_store_laws.proofs.Pairwise.{all_pairs_none, all_pairs_first, all_pairs_rest, all_pairs_join}
use Rattle.and_gathering.specs.Gathering.{Walks, over, stays, goal_taken, goals_of_body}
use Rattle.and_gathering.specs.Gathering as gathering
use Rattle.and_gathering.specs.declared.links.Taken.{Taken}
use Rattle.and_gathering.specs.declared.links.Taken.TheVariants.{Reduced, Ran}

-- ---- goals that are not the same item of the same clause

abbrev pub Apart : Goal → Goal → Type 0
Apart g h = g.node ≡ h.node → g.item ≡ h.item → ⊥

pub apart_turned : (g h : Goal) → Apart g h → Apart h g
apart_turned g h a n i = a (sym n) (sym i)

-- Of a list of which all are apart, two are apart or one.
pub apart_or_one : {X : Type 0} (f : X → Goal) (xs : List X) → AllPairs (λ (x y : X). Apart (f x) (f y)) xs → (x y : X) → Contains xs x
    → Contains xs y → (x ≡ y) ⊎ Apart (f x) (f y)
apart_or_one f [] pairs x y a b = absurd (contains_none x a)
apart_or_one {X} f (z ∷ xs) pairs x y a b =
    let R : X → X → Type 0 = λ x y. Apart (f x) (f y) in
    let first : All (R z) xs = all_pairs_first R z xs pairs in
    elim (contains_cases z x xs a) [
      | inl is ↦ elim (contains_cases z y xs b) [
        | inl too ↦ inl (is ∙ sym too)
        | inr there ↦ inr (subst (λ (u : X). Apart (f u) (f y)) (sym is) (All-contains (R z) xs y first there))
      ]
      | inr here ↦ elim (contains_cases z y xs b) [
        | inl too ↦ inr (subst (λ (u : X). Apart (f x) (f u)) (sym too) (apart_turned (f z) (f x) (All-contains (R z) xs x first here)))
        | inr there ↦ apart_or_one f xs (all_pairs_rest R z xs pairs) x y here there
      ]
    ]

-- ---- how many of what was taken stand at a node

abbrev pub at_node : ℕ → Taken → ℕ
at_node n (Reduced g r) = cond (eqb r.node n) 1 0
at_node n (Ran g) = 0

-- ---- the goals of a body

module _ (P : Program) where
  -- They stand at its node, and their frame begins there,
  pub body_nodes : (r : Reduction) (x : Goal) → Contains (goals_of_body P r) x → (x.node ≡ r.node) × (x.base ≡ r.node)
  body_nodes r x h =
      let body : List Framed = body_goals r.clause.0 r.node [] 0 (clause_at P r.clause.0).body in
      All-contains (λ (g : Goal). (g.node ≡ r.node) × (g.base ≡ r.node)) (goals_of_body P r) x
      (All-map (λ (g : Goal). (g.node ≡ r.node) × (g.base ≡ r.node)) goal_of body
      (body_goals_all (λ (f : Framed). (f.goal.node ≡ r.node) × (f.goal.base ≡ r.node)) r.clause.0 r.node [] 0 (clause_at P r.clause.0).body
      (λ j l m. (refl, refl)))) h

later_items : (c n i j : ℕ) (items : List Item) → i < j → All (Apart (goal_at c n [] i).goal) (map goal_of (body_goals c n [] j items))
later_items c n i j items low =
    All-map (Apart (goal_at c n [] i).goal) goal_of (body_goals c n [] j items)
    (body_goals_all (λ (f : Framed). Apart (goal_at c n [] i).goal f.goal) c n [] j items (λ k l m same item. absurd (omega arith)))

items_apart : (c n i : ℕ) (items : List Item) → AllPairs Apart (map goal_of (body_goals c n [] i items))
items_apart c n i [] = all_pairs_none Apart
items_apart c n i (call g ∷ items) =
    AllPairs-cons Apart (goal_at c n [] i).goal (map goal_of (body_goals c n [] (suc i) items)) (later_items c n i (suc i) items (omega arith))
    (items_apart c n (suc i) items)
items_apart c n i (equal a b ∷ items) = items_apart c n (suc i) items
items_apart c n i (arithmetic a ∷ items) =
    AllPairs-cons Apart (goal_at c n [] i).goal (map goal_of (body_goals c n [] (suc i) items)) (later_items c n i (suc i) items (omega arith))
    (items_apart c n (suc i) items)
items_apart c n i (fail ∷ items) = items_apart c n (suc i) items

-- An item that is a call is among them.
call_among : (c n i k : ℕ) (items : List Item) (t : Term) → get_or items k fail ≡ call t
    → Contains (map goal_of (body_goals c n [] i items)) (goal_at c n [] (i + k)).goal
call_among c n i k [] t e = absurd (cc)
call_among c n i zero (call g ∷ items) t e =
    let same : i ≡ i + 0 = omega arith in
    subst (λ (j : ℕ). Contains (map goal_of (body_goals c n [] i (call g ∷ items))) (goal_at c n [] j).goal) same
    (contains_first (goal_at c n [] i).goal (map goal_of (body_goals c n [] (suc i) items)))
call_among c n i zero (equal a b ∷ items) t e = absurd (cc)
call_among c n i zero (arithmetic a ∷ items) t e = absurd (cc)
call_among c n i zero (fail ∷ items) t e = absurd (cc)
call_among c n i (suc k) (x ∷ items) t e =
    let same : suc i + k ≡ i + suc k = omega arith in
    subst (λ (j : ℕ). Contains (map goal_of (body_goals c n [] i (x ∷ items))) (goal_at c n [] j).goal) same
    (one_more c n i x items (goal_at c n [] (suc i + k)).goal (call_among c n (suc i) k items t e))
  where
    one_more : (c n i : ℕ) (x : Item) (items : List Item) (g : Goal) → Contains (map goal_of (body_goals c n [] (suc i) items)) g
        → Contains (map goal_of (body_goals c n [] i (x ∷ items))) g
    one_more c n i (call t) items g h = contains_more (goal_at c n [] i).goal g (map goal_of (body_goals c n [] (suc i) items)) h
    one_more c n i (equal a b) items g h = h
    one_more c n i (arithmetic a) items g h = contains_more (goal_at c n [] i).goal g (map goal_of (body_goals c n [] (suc i) items)) h
    one_more c n i fail items g h = h

pub body_call : (P : Program) (r : Reduction) (k : ℕ) (t : Term) → get_or (clause_at P r.clause.0).body k fail ≡ call t
    → Contains (goals_of_body P r) (record { node = r.node; item = k; clause = r.clause; base = r.node })
body_call P r k t e =
    let same : 0 + k ≡ k = omega arith in
    subst (λ (j : ℕ). Contains (goals_of_body P r) (goal_at r.clause.0 r.node [] j).goal) same
    (call_among r.clause.0 r.node 0 k (clause_at P r.clause.0).body t e)

-- ---- where goals stand

-- It is one of these, or stands in the body of a clause that was met.
abbrev pub StandsIn : Program → List Goal → List Taken → Goal → Type 0
StandsIn P goals met x = Contains goals x ⊎ ((h : Goal) × (r : Reduction) × Contains met (Reduced h r) × Contains (goals_of_body P r) x)

module _ (P : Program) where
  -- It stands there too when more was met,
  stands_more : (goals : List Goal) (t : Taken) (met : List Taken) (x : Goal) → StandsIn P goals met x → StandsIn P goals (t ∷ met) x
  stands_more goals t met x (inl there) = inl there
  stands_more goals t met x (inr b) = inr (b.0, b.1, contains_more t (Reduced b.0 b.1) met b.2, b.3)

  -- and when one goal more stands before them.
  stands_behind : (g : Goal) (goals : List Goal) (met : List Taken) (x : Goal) → StandsIn P goals met x → StandsIn P (g ∷ goals) met x
  stands_behind g goals met x (inl there) = inl (contains_more g x goals there)
  stands_behind g goals met x (inr b) = inr b

  -- What stands among the goals of a body and those after it stands in the body of what was met first, or among those.
  stands_below : (g : Goal) (r : Reduction) (goals : List Goal) (met : List Taken) (x : Goal) → StandsIn P (goals_of_body P r ++ goals) met x
      → StandsIn P (g ∷ goals) (Reduced g r ∷ met) x
  stands_below g r goals met x (inr b) = inr (b.0, b.1, contains_more (Reduced g r) (Reduced b.0 b.1) met b.2, b.3)
  stands_below g r goals met x (inl there) = elim (Contains-append_cases (goals_of_body P r) goals x there) [
    | inl body ↦ inr (g, r, contains_first (Reduced g r) met, body)
    | inr rest ↦ inl (contains_more g x goals rest)
  ]

  -- Each goal that was met is one of those at the beginning, or stands in the body of a clause that was met;
  pub met_stands : {goals left : List Goal} {met : List Taken} → Walks P goals left met → (t : Taken) → Contains met t → StandsIn P goals met (goal_taken t)
  met_stands over t h = absurd (contains_none t h)
  met_stands (stays g gs left met w) t h = stands_behind g gs met (goal_taken t) (met_stands w t h)
  met_stands (gathering.ran g gs left met w) t h = elim (contains_cases (Ran g) t met h) [
    | inl is ↦ inl (subst (Contains (g ∷ gs)) (sym (ap goal_taken is)) (contains_first g gs))
    | inr there ↦ stands_behind g gs (Ran g ∷ met) (goal_taken t) (stands_more gs (Ran g) met (goal_taken t) (met_stands w t there))
  ]
  met_stands (gathering.reduced g r gs left met behind named w) t h = elim (contains_cases (Reduced g r) t met h) [
    | inl is ↦ inl (subst (Contains (g ∷ gs)) (sym (ap goal_taken is)) (contains_first g gs))
    | inr there ↦ stands_below g r gs met (goal_taken t) (met_stands w t there)
  ]

  -- and so is each that is left.
  pub left_stands : {goals left : List Goal} {met : List Taken} → Walks P goals left met → (x : Goal) → Contains left x → StandsIn P goals met x
  left_stands over x h = absurd (contains_none x h)
  left_stands (stays g gs left met w) x h = elim (contains_cases g x left h) [
    | inl is ↦ inl (subst (Contains (g ∷ gs)) (sym is) (contains_first g gs))
    | inr there ↦ stands_behind g gs met x (left_stands w x there)
  ]
  left_stands (gathering.ran g gs left met w) x h = stands_behind g gs (Ran g ∷ met) x (stands_more gs (Ran g) met x (left_stands w x h))
  left_stands (gathering.reduced g r gs left met behind named w) x h = stands_below g r gs met x (left_stands w x h)

  -- A reduction stands behind the node of its call.
  pub met_behind : {goals left : List Goal} {met : List Taken} → Walks P goals left met → (h : Goal) (s : Reduction) → Contains met (Reduced h s)
      → h.node < s.node
  met_behind over h s c = absurd (contains_none (Reduced h s) c)
  met_behind (stays g gs left met w) h s c = met_behind w h s c
  met_behind (gathering.ran g gs left met w) h s c = elim (contains_cases (Ran g) (Reduced h s) met c) [
    | inl is ↦ absurd (cc)
    | inr there ↦ met_behind w h s there
  ]
  met_behind (gathering.reduced g r gs left met behind named w) h s c = elim (contains_cases (Reduced g r) (Reduced h s) met c) [
    | inl is ↦ (let a : h ≡ g = cc in let b : s ≡ r = cc in
        subst (λ (x : Goal). x.node < s.node) (sym a) (subst (λ (x : Reduction). g.node < x.node) (sym b) behind))
    | inr there ↦ met_behind w h s there
  ]

-- ---- no goal is met twice

-- All that are left and all that were met are apart.
pub record AreApart (left : List Goal) (met : List Taken) : Type 0 where
  pub of_left : AllPairs Apart left
  pub of_met : AllPairs (λ (s t : Taken). Apart (goal_taken s) (goal_taken t)) met
  pub across : (x : Goal) (t : Taken) → Contains left x → Contains met t → Apart x (goal_taken t)

-- One goal more is left, or was met.
left_more : (g : Goal) (left : List Goal) (met : List Taken) → AreApart left met → ((x : Goal) → Contains left x → Apart g x)
    → ((t : Taken) → Contains met t → Apart g (goal_taken t)) → AreApart (g ∷ left) met
left_more g left met a of_left of_met = record {
  of_left = AllPairs-cons Apart g left (all_of (Apart g) left of_left) a.of_left;
  of_met = a.of_met;
  across = λ x t c d. elim (contains_cases g x left c) [
    | inl is ↦ subst (λ (y : Goal). Apart y (goal_taken t)) (sym is) (of_met t d)
    | inr there ↦ a.across x t there d
  ];
}

met_more : (s : Taken) (left : List Goal) (met : List Taken) → AreApart left met → ((x : Goal) → Contains left x → Apart (goal_taken s) x)
    → ((t : Taken) → Contains met t → Apart (goal_taken s) (goal_taken t)) → AreApart left (s ∷ met)
met_more s left met a of_left of_met = record {
  of_left = a.of_left;
  of_met = AllPairs-cons (λ (s t : Taken). Apart (goal_taken s) (goal_taken t)) s met
      (all_of (λ (t : Taken). Apart (goal_taken s) (goal_taken t)) met of_met) a.of_met;
  across = λ x t c d. elim (contains_cases s t met d) [
    | inl is ↦ subst (λ (u : Taken). Apart x (goal_taken u)) (sym is) (apart_turned (goal_taken s) x (of_left x c))
    | inr there ↦ a.across x t c there
  ];
}

-- Each reduction stands at a node of its own, and none at a goal's.
pub record AreFresh (goals : List Goal) (met : List Taken) : Type 0 where
  pub once : (n : ℕ) → sum_by (at_node n) met ≤ 1
  pub new : (x : Goal) → Contains goals x → sum_by (at_node x.node) met ≡ 0

pub counts_itself : (g : Goal) (r : Reduction) (met : List Taken) → sum_by (at_node r.node) (Reduced g r ∷ met) ≡ 1 + sum_by (at_node r.node) met
counts_itself g r met =
    sum_by-cons (at_node r.node) (Reduced g r) met ∙ ap (λ (b : _). cond b 1 0 + sum_by (at_node r.node) met) (eq-eqb r.node r.node refl)

pub counts_less : (n : ℕ) (t : Taken) (met : List Taken) → sum_by (at_node n) met ≤ sum_by (at_node n) (t ∷ met)
counts_less n t met = let c = sum_by-cons (at_node n) t met in omega arith

-- One that was met is counted.
pub counts_met : (g : Goal) (r : Reduction) (n : ℕ) (met : List Taken) → Contains met (Reduced g r) → r.node ≡ n → 1 ≤ sum_by (at_node n) met
counts_met g r n [] h e = absurd (contains_none (Reduced g r) h)
counts_met g r n (t ∷ met) h e = elim (contains_cases t (Reduced g r) met h) [
  | inl is ↦ (let a = counts_itself g r met in
      let b : sum_by (at_node n) (t ∷ met) ≡ sum_by (at_node r.node) (Reduced g r ∷ met) =
      ap (λ (k : ℕ). sum_by (at_node k) (t ∷ met)) (sym e) ∙ ap (λ (u : Taken). sum_by (at_node r.node) (u ∷ met)) (sym is) in omega arith)
  | inr there ↦ (let a = counts_met g r n met there e in let b = counts_less n t met in omega arith)
]

module _ (P : Program) where
  -- Where a goal stands apart from some goals, and at a node where none of the reductions stands, it stands apart from all that stands among them.
  apart_from : (g : Goal) (goals : List Goal) (met : List Taken) → ((x : Goal) → Contains goals x → Apart g x) → sum_by (at_node g.node) met ≡ 0
      → (x : Goal) → StandsIn P goals met x → Apart g x
  apart_from g goals met apart none x (inl there) = apart x there
  apart_from g goals met apart none x (inr b) = λ n i.
      let e = (body_nodes P b.1 x b.3).0 in
      let same : b.1.node ≡ g.node = sym e ∙ sym n in
      let some = counts_met b.0 b.1 g.node met b.2 same in absurd (omega arith)

  pub walked_apart : {goals left : List Goal} {met : List Taken} → Walks P goals left met → AllPairs Apart goals → AreFresh goals met → AreApart left met
  walked_apart over pairs fresh = record {
    of_left = all_pairs_none Apart;
    of_met = all_pairs_none (λ (s t : Taken). Apart (goal_taken s) (goal_taken t));
    across = λ x t c d. absurd (contains_none x c);
  }
  walked_apart (stays g gs left met w) pairs fresh =
      let rest : AreFresh gs met = record { once = fresh.once; new = λ x h. fresh.new x (contains_more g x gs h) } in
      let others : (x : Goal) → StandsIn P gs met x → Apart g x =
      apart_from g gs met (λ x h. All-contains (Apart g) gs x (all_pairs_first Apart g gs pairs) h) (fresh.new g (contains_first g gs)) in
      left_more g left met (walked_apart w (all_pairs_rest Apart g gs pairs) rest) (λ x c. others x (left_stands P w x c))
      (λ t c. others (goal_taken t) (met_stands P w t c))
  walked_apart (gathering.ran g gs left met w) pairs fresh =
      let less : (n : ℕ) → sum_by (at_node n) (Ran g ∷ met) ≡ sum_by (at_node n) met =
      λ n. let c = sum_by-cons (at_node n) (Ran g) met in omega arith in
      let rest : AreFresh gs met = record {
        once = λ n. (let a = fresh.once n in let b = less n in omega arith);
        new = λ x h. sym (less x.node) ∙ fresh.new x (contains_more g x gs h);
      } in
      let others : (x : Goal) → StandsIn P gs met x → Apart g x =
      apart_from g gs met (λ x h. All-contains (Apart g) gs x (all_pairs_first Apart g gs pairs) h)
      (sym (less g.node) ∙ fresh.new g (contains_first g gs)) in
      met_more (Ran g) left met (walked_apart w (all_pairs_rest Apart g gs pairs) rest) (λ x c. others x (left_stands P w x c))
      (λ t c. others (goal_taken t) (met_stands P w t c))
  walked_apart (gathering.reduced g r gs left met behind named w) pairs fresh =
      let body : List Goal = goals_of_body P r in
      let itself = counts_itself g r met in
      let nowhere : sum_by (at_node r.node) met ≡ 0 = let a = fresh.once r.node in omega arith in
      let elsewhere : (x : Goal) → sum_by (at_node x.node) (Reduced g r ∷ met) ≡ 0 → x.node ≢ r.node =
      λ x none e. let a = counts_met g r x.node (Reduced g r ∷ met) (contains_first (Reduced g r) met) (sym e) in absurd (omega arith) in
      let rest : AreFresh (body ++ gs) met = record {
        once = λ n. (let a = fresh.once n in let b = counts_less n (Reduced g r) met in omega arith);
        new = λ x h. elim (Contains-append_cases body gs x h) [
          | inl c ↦ ap (λ (n : ℕ). sum_by (at_node n) met) (body_nodes P r x c).0 ∙ nowhere
          | inr c ↦ (let a = fresh.new x (contains_more g x gs c) in let b = counts_less x.node (Reduced g r) met in omega arith)
        ];
      } in
      let joined : AllPairs Apart (body ++ gs) =
      all_pairs_join Apart body gs (items_apart r.clause.0 r.node 0 (clause_at P r.clause.0).body) (all_pairs_rest Apart g gs pairs)
      (all_of (λ (x : Goal). All (Apart x) gs) body (λ x c. all_of (Apart x) gs (λ y d n i.
      elsewhere y (fresh.new y (contains_more g y gs d)) (sym n ∙ (body_nodes P r x c).0)))) in
      let new_here : g.node ≢ r.node = elsewhere g (fresh.new g (contains_first g gs)) in
      let others : (x : Goal) → StandsIn P (body ++ gs) met x → Apart g x =
      apart_from g (body ++ gs) met (λ x h. elim (Contains-append_cases body gs x h) [
        | inl c ↦ (λ n i. new_here (n ∙ (body_nodes P r x c).0))
        | inr c ↦ All-contains (Apart g) gs x (all_pairs_first Apart g gs pairs) c
      ]) (let a = fresh.new g (contains_first g gs) in let b = counts_less g.node (Reduced g r) met in omega arith) in
      met_more (Reduced g r) left met (walked_apart w joined rest) (λ x c. others x (left_stands P w x c))
      (λ t c. others (goal_taken t) (met_stands P w t c))
