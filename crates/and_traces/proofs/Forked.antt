-- What the state of a tree says of its splits that fit.
use Rattle.std.proofs.Common.{ℕ, ◌+◌, ◌≡◌, ◌<◌, ◌≤◌, List, refl, arith, inl, inr, Contains}
use Rattle.std.specs.Prelude.{Option, Some, None}
use Rattle.std.proofs.lemmas.Bool.{cases_lt}
use Rattle.and_model.specs.Programs.{Program, clause_at, clause_weight}
use Rattle.and_model.specs.Trees.{QueryTree, Open, weight}
use Rattle.and_model.specs.Reached.{Split, CandidateOf}
use Rattle.and_branch_laws.specs.States.{Fits, StateOf, over_one, over_all, fork}
use Rattle.and_search_laws.proofs.Splitting.{too_heavy, split_weighs, candidate_splits, split_candidate, one_over}
use Rattle.and_traces.specs.Traces.{FittingClauses, IsKept}

module _ (P : Program) (limit : ℕ) (t : QueryTree P) (o : Open t) where
  -- The limit keeps all from going on, where one candidate or all candidates of the leftmost goal are too heavy.
  pub one_kept : (c : ℕ) → StateOf P limit t (over_one o c) → IsKept P limit t
  one_kept c x = inl (one_over P limit t o c x)

  pub all_kept : (c : ℕ) → StateOf P limit t (over_all o c) → IsKept P limit t
  all_kept c x = inr (
    x.2.0,
    o,
    λ d next s.
        let k : CandidateOf t x.0 o d = split_candidate t o x.0 x.1 x.2 d next s in
        let heavy = too_heavy limit t d (x.3 d k) in
        let weighs = split_weighs t next d s in
        omega (arith, heavy, weighs),
  )

  module _ (cs : List ℕ) (first : Option ℕ) (x : StateOf P limit t (fork o cs first)) where
    -- The candidates that fit are the clauses of the splits that fit,
    pub fork_fits : FittingClauses P limit t cs
    fork_fits = (
      x.4,
      λ c. (
        λ i.
            let k = (x.5 c).0 i in
            let (next, s) = candidate_splits t o x.0 x.1 x.2 c k.0 in
            let weighs = split_weighs t next c s in
            let fits = k.1 in
            (next, s, omega (arith, fits, weighs)),
        λ s.
            let k = split_candidate t o x.0 x.1 x.2 c s.0 s.1 in
            let weighs = split_weighs t s.0 c s.1 in
            let fits = s.2 in
            (x.5 c).1 (k, omega (arith, fits, weighs)),
      ),
    )

  -- and where none is named that does not fit, all splits fit;
  pub fork_whole : (cs : List ℕ) → StateOf P limit t (fork o cs None) → (c : ℕ) (next : QueryTree P) → Split t c next → weight next ≤ limit
  fork_whole cs x c next s =
      let k : CandidateOf t x.0 o c = split_candidate t o x.0 x.1 x.2 c next s in
      let weighs = split_weighs t next c s in
      elim (cases_lt limit (weight t + clause_weight (clause_at P c))) [
        | inl above ↦ absurd (x.6 c (k, λ fits. absurd (omega (arith, above, fits))))
        | inr fits ↦ omega (arith, fits, weighs)
      ]

  -- the one that is named is that of a split that is too heavy.
  pub fork_heavy : (cs : List ℕ) (c : ℕ) → StateOf P limit t (fork o cs (Some c)) → (next : QueryTree P) × Split t c next × (limit < weight next)
  fork_heavy cs c x =
      let k = x.6.0 in
      let (next, s) = candidate_splits t o x.0 x.1 x.2 c k.0 in
      let heavy = too_heavy limit t c k.1 in
      let weighs = split_weighs t next c s in
      (next, s, omega (arith, heavy, weighs))
