-- Every outcome is reached, and where all reached trees fit the limit, no outcome is beyond it.
use Rattle.std.proofs.Common.{ℕ, ◌≡◌, ◌≢◌, ◌+◌, ◌≤◌, List, refl, subst, inl, inr, ◌⊎◌, arith, zero, suc, length}
use Rattle.and_model.specs.Solutions.{Equation, Entails}
use Rattle.and_model.specs.Programs.{Program, Arithmetic, clause_weight, Of}
use Rattle.and_model.specs.Trees.{Agenda, Tree, QueryTree, query_agenda, blank, done, left, by, equate, reckon, equations, arithmetics, taken_weight, weight}
use Rattle.and_model.specs.Trees.{IsWhole, code, Open, path, call_of, reduce, Below, Closed, HasOutcome}
use Rattle.and_model.specs.Reached.{CandidateOf, Step, Shut, Split, ReachedBy, Reached}
use Rattle.and_model.specs.Limits.{Cut, query_alone, at_goal, OverLimit}
use Rattle.and_laws.specs.Fitting.{AllFit}
use Rattle.and_laws.proofs.Deciding.{closes_total, others}
use Rattle.and_laws.proofs.Order.{blank_below, below_weight, below_size, whole_below, whole_same, open_or_whole, reduce_weight, reduce_size, blank_weighs}
use Rattle.and_laws.proofs.Picking.{Picked, picked, picked_candidate, closed_grows}
use Rattle.and_laws.proofs.Splitting.{leftmost}

-- Some open goal is so, or each is otherwise.
every_or : {P : Program} {ag : Agenda} (t : Tree P ag) (A B : Open t → Type 0) → ((o : Open t) → A o ⊎ B o) → ((o : Open t) × A o) ⊎ ((o : Open t) → B o)
every_or done A B f = inr (λ o. elim o [ ])
every_or (left t) A B f =
    elim (f (inl tt)) [
      | inl a ↦ inl (inl tt, a)
      | inr b ↦ elim (every_or t (λ o. A (inr o)) (λ o. B (inr o)) (λ o. f (inr o))) [
        | inl a ↦ inl (inr a.0, a.1)
        | inr bs ↦ inr (elim [ inl x ↦ b | inr o ↦ bs o ])
      ]
    ]
every_or (by c h t) A B f = every_or t A B f
every_or (equate t) A B f = every_or t A B f
every_or (reckon t) A B f = every_or t A B f

-- Onward t u: a Step or a Split of t goes on below u.
pub record Onward {P : Program} {ag : Agenda} (t u : Tree P ag) : Type 0 where
  pub goal : Open t
  pub clause : ℕ
  pub fits : Of P (call_of t goal) clause
  pub below : Below P ag (reduce t goal clause fits) u
  pub step_or_split : Step t (reduce t goal clause fits) ⊎ Split t clause (reduce t goal clause fits)
  pub closed_equations : List Equation
  pub waiting : List Arithmetic
  pub closed : Closed t closed_equations waiting
  pub candidate : CandidateOf t closed_equations goal clause

-- From a tree with open goals that is below one with an outcome, the way goes on.
pub goes_on : {P : Program} {ag : Agenda} (t u : Tree P ag) → Below P ag t u → HasOutcome u → Open t → Onward t u
goes_on {P} {ag} t u b out any =
    let (es, gs, x) = closes_total (equations t) (arithmetics t) in
    let (ds, ws, whole, y, so) = out in
    let grow : Entails ds es = closed_grows es ds gs ws b x y in
    let r : (o : Open t) → Picked t u o = λ o. picked b whole o in
    let k : (o : Open t) → CandidateOf t es o (r o).0 = λ o. picked_candidate b out o (r o) es gs x in
    let Alone : Open t → Type 0 = λ o. (d : ℕ) → CandidateOf t es o d → d ≡ (r o).0 in
    let Not : Open t → Type 0 = λ o. (d : ℕ) × ((r o).0 ≢ d) × CandidateOf t es o d in
    let each : (o : Open t) → Alone o ⊎ Not o = λ o. elim (others P es (path t o) (call_of t o) (r o).0) [ inl f ↦ inr f | inr f ↦ inl f ] in
    elim (every_or t Alone Not each) [
      | inl one ↦ record {
        goal = one.0;
        clause = (r one.0).0;
        fits = (r one.0).1;
        below = (r one.0).2 (r one.0).1;
        step_or_split = inl (es, gs, x, one.0, (r one.0).0, (r one.0).1, refl, one.1);
        closed_equations = es;
        waiting = gs;
        closed = x;
        candidate = k one.0;
      }
      | inr two ↦
          let m = leftmost t any in
          let shut : Shut t = (es, gs, x, (so.0, grow so.0 so.1), λ o. ((r o).0, (two o).0, (two o).1, k o, (two o).2)) in
          record {
            goal = m.0;
            clause = (r m.0).0;
            fits = (r m.0).1;
            below = (r m.0).2 (r m.0).1;
            step_or_split = inr (shut, es, gs, x, m.0, m.1, (r m.0).1, k m.0, refl);
            closed_equations = es;
            waiting = gs;
            closed = x;
            candidate = k m.0;
          }
    ]

-- Steps and Splits that fit the limit lead to reached trees.
reached_step : (P : Program) (limit : ℕ) (t u : QueryTree P) → Reached P limit t → Step t u → weight u ≤ limit → Reached P limit u
reached_step P limit t u r s h = (r.0, ReachedBy.stepped r.0 t u r.1 s h)

reached_split : (P : Program) (limit : ℕ) (t : QueryTree P) (c : ℕ) (u : QueryTree P) → Reached P limit t → Split t c u → weight u ≤ limit → Reached P limit u
reached_split P limit t c u r s h = (_, ReachedBy.divided r.0 t c u r.1 s h)

reached_start : (P : Program) (limit : ℕ) → clause_weight P.query ≤ limit → Reached P limit (blank (query_agenda P))
reached_start P limit h = (_, ReachedBy.start (omega (arith, h, blank_weighs P (query_agenda P))))

-- From a reached tree below one with an outcome, a whole reached tree is come to below it, where all on the way fits.
-- (By induction on how many clauses are missing.)
pub climbs : (P : Program) (limit : ℕ) (u : QueryTree P) → HasOutcome u
    → ((t : QueryTree P) (o : Open t) (c : ℕ) (h : Of P (call_of t o) c) → Reached P limit t → Below P (query_agenda P) (reduce t o c h) u
    → (es : List Equation) (gs : List Arithmetic) → Closed t es gs → CandidateOf t es o c → weight (reduce t o c h) ≤ limit)
    → (n : ℕ) (t : QueryTree P) → length (code u) ≤ n + length (code t) → Reached P limit t → Below P (query_agenda P) t u
    → (v : QueryTree P) × Reached P limit v × IsWhole v × Below P (query_agenda P) v u
climbs P limit u out fits zero t near reached b = elim (open_or_whole t) [
  | inr w ↦ (t, reached, w, b)
  | inl any ↦
      let on : Onward t u = goes_on t u b out any in
      absurd (omega (arith, reduce_size t on.goal on.clause on.fits, below_size on.below))
]
climbs P limit u out fits (suc n) t near reached b = elim (open_or_whole t) [
  | inr w ↦ (t, reached, w, b)
  | inl any ↦
      let on : Onward t u = goes_on t u b out any in
      let next : QueryTree P = reduce t on.goal on.clause on.fits in
      let nearer : length (code u) ≤ n + length (code next) = omega (arith, reduce_size t on.goal on.clause on.fits) in
      let light : weight next ≤ limit = fits t on.goal on.clause on.fits reached on.below on.closed_equations on.waiting on.closed on.candidate in
      let there : Reached P limit next =
      elim on.step_or_split [ inl st ↦ reached_step P limit t next reached st light | inr sp ↦ reached_split P limit t on.clause next reached sp light ] in
      climbs P limit u out fits n next nearer there on.below
]

-- Every outcome within the limit is reached.
pub every_outcome_reached : (P : Program) (limit : ℕ) (u : QueryTree P) → HasOutcome u → weight u ≤ limit → Reached P limit u
every_outcome_reached P limit u out fits =
    let none_taken : taken_weight (blank {P = P} (query_agenda P)) ≡ 0 = blank_weighs P (query_agenda P) in
    let r = climbs P limit u out (λ t o c h r b es gs y k. let w = below_weight b in omega arith)
    (length (code u)) (blank (query_agenda P)) (omega arith) (reached_start P limit (omega arith)) (blank_below u) in
    subst (λ v. Reached P limit v) (whole_same r.0 u r.2 r.3) r.1

-- A reached tree weighs at most the limit.
pub reached_within : (P : Program) (limit : ℕ) (key : List ℕ) (t : QueryTree P) → ReachedBy P limit key t → weight t ≤ limit
reached_within P limit key t (ReachedBy.start h) = h
reached_within P limit key t (ReachedBy.stepped k t' u r s h) = h
reached_within P limit key t (ReachedBy.divided k t' c u r s h) = h

-- Where all fits, no outcome weighs more than the limit,
pub fitting_trees_bound : (P : Program) (limit : ℕ) → AllFit P limit → (u : QueryTree P) → HasOutcome u → weight u ≤ limit
fitting_trees_bound P limit all u out =
    let g = climbs P limit u out (λ t o c h r b es gs y k. let a = all.1 t r es gs y o c k in omega (arith, reduce_weight t o c h, a))
    (length (code u)) (blank (query_agenda P)) (omega arith) (reached_start P limit all.0) (blank_below u) in
    omega (arith, reached_within P limit g.1.0 g.0 g.1.1, (whole_below g.3 g.2).3)

-- and nothing is over it.
pub fitting_trees_no_cut : (P : Program) (limit : ℕ) → AllFit P limit → (cut : Cut P) → OverLimit P limit cut → ⊥
fitting_trees_no_cut P limit all query_alone h = let a = all.0 in omega arith
fitting_trees_no_cut P limit all (at_goal t o c) x = let a = all.1 t x.0 x.2 x.3 x.4 o c x.5 in let b = x.7 in omega arith
