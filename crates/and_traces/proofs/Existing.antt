-- There is something to tell of each tree within the limit.
use Rattle.std.proofs.Common.{ℕ, zero, suc, ◌+◌, ◌<◌, ◌≤◌, List, [], ◌∷◌, ◌++◌, refl, arith, inl, inr, Contains}
use Rattle.std.specs.Prelude.{Option, Some, None}
use Rattle.std.proofs.lemmas.Bool.{cases_lt}
use Rattle.and_model.specs.Solutions.{Equation, Solvable}
use Rattle.and_model.specs.Programs.{Program, Arithmetic, clause_at}
use Rattle.and_model.specs.Trees.{QueryTree, Open, IsWhole, Closed, blank, query_agenda, code, reduce, weight}
use Rattle.and_model.specs.Reached.{Step, Steps, Split}
use Rattle.and_model.specs.Lines.{line}
use Rattle.and_model.specs.Listing.{outcome_of}
use Rattle.and_model.specs.declared.goal.Cut.{Cut}
use Rattle.and_laws.proofs.Unifying.{unify}
use Rattle.and_laws.proofs.Order.{reduce_weight, clause_weighs}
use Rattle.and_laws.proofs.Ordered.{contains_first, contains_more}
use Rattle.and_branch_laws.specs.States.{State, StateOf, failed, determinate, over_one, over_all, fork, floundered, answer}
use Rattle.and_branch_laws.proofs.SomeState.{some_state}
use Rattle.and_search_laws.proofs.Splitting.{split_grows}
use Rattle.and_traces.specs.Traces
use Rattle.and_traces.specs.Traces.{Report, ComesTo, CutOff, TracesSplits, TracesQuery}
use Rattle.and_traces.proofs.Forked.{one_kept, all_kept, fork_fits, fork_whole, fork_heavy}

-- Steps one after the other
pub steps_then : {P : Program} (t u v : QueryTree P) → Steps t u → Steps u v → Steps t v
steps_then t u v s (Steps.none u') = s
steps_then t u v s (Steps.more u' x next ss st) = Steps.more t x next (steps_then t u' x s ss) st

-- some cut, of which nothing is said
some_cut : Cut
some_cut = record { partial = []; clause = record { 0 = 0 }; goal = record { node = 0; item = 0; clause = record { 0 = 0 }; base = 0 } }

module _ (P : Program) (limit : ℕ) where
  -- What Steps lead to has the reports of where they begin.
  pub traces_before : (t u : QueryTree P) (d : ℕ) (rs : List Report) → Steps t u → Traces.Traces P limit u d rs → Traces.Traces P limit t d rs
  traces_before t u d rs s (Traces.over u' end e x comes kept) =
      Traces.over t end e x (steps_then t u' end s comes.0, comes.1) kept
  traces_before t u d rs s (Traces.dead u' end e comes x) = Traces.dead t end e (steps_then t u' end s comes.0, comes.1) x
  traces_before t u d rs s (Traces.whole u' end e o comes x) = Traces.whole t end e o (steps_then t u' end s comes.0, comes.1) x
  traces_before t u d rs s (Traces.divided u' end e cs cuts ks comes shut o fit off splits) =
      Traces.divided t end e cs cuts ks (steps_then t u' end s comes.0, comes.1) shut o fit off splits

  -- there is something to tell of the tree, at each depth
  abbrev IsTraced : QueryTree P → Type 0
  IsTraced t = (depth : ℕ) → (rs : List Report) × Traces.Traces P limit t depth rs

  -- (of each heavier tree within the limit)
  abbrev HeavierAreTraced : QueryTree P → Type 0
  HeavierAreTraced t = (next : QueryTree P) → weight t < weight next → weight next ≤ limit → IsTraced next

  some_splits : (t : QueryTree P) → HeavierAreTraced t → (cs : List ℕ) (depth : ℕ)
      → ((c : ℕ) → Contains cs c → (next : QueryTree P) × Split t c next × (weight next ≤ limit))
      → (rs : List Report) × TracesSplits P limit t cs depth rs
  some_splits t heavier [] depth each = ([], TracesSplits.no_more t depth)
  some_splits t heavier (c ∷ cs) depth each =
      let (next, split, light) = each c (contains_first c cs) in
      let (ks, first) = heavier next (split_grows t next c split) light depth in
      let (js, rest) = some_splits t heavier cs depth (λ d i. each d (contains_more c d cs i)) in
      (ks ++ js, TracesSplits.more t next c cs depth ks js split first rest)

  some_cuts : (t : QueryTree P) (o : Open t) (cs : List ℕ) (first : Option ℕ) (depth : ℕ) → StateOf P limit t (fork o cs first)
      → (cuts : List Report) × CutOff P limit t depth cuts
  some_cuts t o cs None depth x = ([], CutOff.all_fit (fork_whole P limit t o cs x))
  some_cuts t o cs (Some c) depth x =
      let (next, split, heavy) = fork_heavy P limit t o cs c x in
      (record { depth = depth; event = Traces.cut some_cut } ∷ [], CutOff.some_heavy c next some_cut split heavy)

  some_end : (t : QueryTree P) (es : List Equation) (gs : List Arithmetic) → weight t ≤ limit → Closed t es gs → Solvable es → IsWhole t
      → IsTraced t
  some_end t es gs light closed so whole depth = elim (unify es) [
    | inr unsolved ↦ absurd (unsolved so)
    | inl m ↦
        let o = outcome_of gs (line P m.0 gs) in (
          record { depth = depth; event = Traces.ended (code t) o } ∷ [],
          Traces.whole t t depth o (Steps.none t, light) (whole, es, gs, closed, m.0, m.1, refl),
        )
  ]

  by_state : (t : QueryTree P) → weight t ≤ limit → HeavierAreTraced t → (s : State t) → StateOf P limit t s → IsTraced t
  by_state t light heavier failed x depth =
      (record { depth = depth; event = Traces.failed } ∷ [], Traces.dead t t depth (Steps.none t, light) x)
  by_state t light heavier (determinate o c) x depth =
      let k = x.3.0 in
      let grows : weight t < weight (reduce t o c k.0) = omega (arith, reduce_weight t o c k.0, clause_weighs (clause_at P c)) in
      let fits : weight (reduce t o c k.0) ≤ limit = omega (arith, reduce_weight t o c k.0, x.4) in
      let (rs, trace) = heavier (reduce t o c k.0) grows fits depth in
      let step : Step t (reduce t o c k.0) = (x.0, x.1, x.2.0, o, c, k.0, refl, x.3.1) in
      (rs, traces_before t (reduce t o c k.0) depth rs (Steps.more t t (reduce t o c k.0) (Steps.none t) step) trace)
  by_state t light heavier (over_one o c) x depth = (
    record { depth = depth; event = Traces.cut some_cut } ∷ [],
    Traces.over t t depth some_cut (Steps.none t, light) (one_kept P limit t o c x),
  )
  by_state t light heavier (over_all o c) x depth = (
    record { depth = depth; event = Traces.cut some_cut } ∷ [],
    Traces.over t t depth some_cut (Steps.none t, light) (all_kept P limit t o c x),
  )
  by_state t light heavier (fork o cs first) x depth =
      let fit = fork_fits P limit t o cs first x in
      let (ks, splits) = some_splits t heavier cs (depth + 1) (λ c i. (fit.1 c).0 i) in
      let (cuts, off) = some_cuts t o cs first depth x in (
        record { depth = depth; event = Traces.forked cs } ∷ (cuts ++ ks),
        Traces.divided t t depth cs cuts ks (Steps.none t, light) x.2.0 o fit off splits,
      )
  by_state t light heavier floundered x depth = some_end t x.0 x.1 light x.2 x.3 x.4 depth
  by_state t light heavier answer x depth = some_end t x.0 x.1 light x.2 x.3 x.4 depth

  within : (room : ℕ) (t : QueryTree P) → limit < room + weight t → weight t ≤ limit → IsTraced t
  within zero t near light = absurd (omega (arith, near, light))
  within (suc room) t near light =
      let (s, x) = some_state P limit t in
      by_state t light (λ next grows fits. within room next (omega (arith, near, grows)) fits) s x

  pub some_trace : (t : QueryTree P) (depth : ℕ) → weight t ≤ limit → (rs : List Report) × Traces.Traces P limit t depth rs
  some_trace t depth light = within (suc limit) t (omega arith) light depth

  -- So there is of its splits that fit.
  pub splits_traced : (t : QueryTree P) (cs : List ℕ) (depth : ℕ)
      → ((c : ℕ) → Contains cs c → (next : QueryTree P) × Split t c next × (weight next ≤ limit))
      → (rs : List Report) × TracesSplits P limit t cs depth rs
  splits_traced t cs depth each = some_splits t (λ next grows light. λ d. some_trace next d light) cs depth each

  -- And there is something to tell of the query.
  pub some_query : (rs : List Report) × TracesQuery P limit rs
  some_query = elim (cases_lt limit (weight (blank {P = P} (query_agenda P)))) [
    | inl heavy ↦ (record { depth = 0; event = Traces.cut some_cut } ∷ [], TracesQuery.alone some_cut heavy)
    | inr light ↦
        let (rs, trace) = some_trace (blank (query_agenda P)) 0 light in
        (rs, TracesQuery.walked rs trace)
  ]
