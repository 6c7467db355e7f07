-- What acts and runs ask of the cells, one by one.
use Rattle.std.proofs.Common.{ℕ, ◌≡◌, ◌≤◌, nat_eq, leb, ◌&&◌, cond, List, [], ◌∷◌, sym, subst, inl, inr, ◌⊎◌, Contains}
use Rattle.and_model.specs.Terms.{Substitution}
use Rattle.and_model.specs.Solutions.{Equation, Solves}
use Rattle.and_model.specs.Programs.{Program}
use Rattle.and_model.specs.Reductions.{Reduction}
use Rattle.and_model.specs.declared.goal.Goal.{Goal}
use Rattle.and_laws.proofs.Solving.{solves_join, solves_front, solves_back}
use Rattle.and_laws.proofs.Ordered.{contains_first, contains_more, contains_cases, contains_none}
use Rattle.and_branch_laws.specs.Reducing.{reduction_in_cells}
use Rattle.and_worker_laws.specs.Acts.{Act, takes, sets, fails, RunInCells, asked, asked_by, added_by_run, all_added, added_by}
use Rattle.and_worker_laws.proofs.Testing.{equal_holds, equal_within_holds}

-- A reduction among more acts is the last one or one before it.
pub taken_among : (w v : ℕ) (g h : Goal) (r x : Reduction) (acts : List Act) → Contains (takes v h x ∷ acts) (takes w g r)
    → ((w ≡ v) × (g ≡ h) × (r ≡ x)) ⊎ Contains acts (takes w g r)
taken_among w v g h r x acts c = elim (contains_cases (takes v h x) (takes w g r) acts c) [
  | inl is ↦ (let worker : w ≡ v = cc in let goal : g ≡ h = cc in let reduction : r ≡ x = cc in inl (worker, goal, reduction))
  | inr before ↦ inr before
]

module _ (P : Program) (t : Substitution) where
  abbrev pub Asks : Goal → Reduction → Type 0
  Asks g r = Solves t (reduction_in_cells P g r.clause r.node)

  pub asked_of : (acts : List Act) → Solves t (asked P acts) → (w : ℕ) (g : Goal) (r : Reduction) → Contains acts (takes w g r) → Asks g r
  asked_of [] p w g r c = absurd (contains_none (takes w g r) c)
  asked_of (takes v h x ∷ before) p w g r c =
      let last : List Equation = reduction_in_cells P h x.clause x.node in elim (taken_among w v g h r x before c) [
        | inl is ↦ subst (λ (y : Reduction). Asks g y) (sym is.2)
            (subst (λ (k : Goal). Asks k x) (sym is.1) (solves_front t last (asked P before) p))
        | inr earlier ↦ asked_of before (solves_back t last (asked P before) p) w g r earlier
      ]
  asked_of (sets v e ∷ before) p w g r c = elim (contains_cases (sets v e) (takes w g r) before c) [
    | inl is ↦ absurd (cc)
    | inr earlier ↦ asked_of before p w g r earlier
  ]
  asked_of (fails v ∷ before) p w g r c = elim (contains_cases (fails v) (takes w g r) before c) [
    | inl is ↦ absurd (cc)
    | inr earlier ↦ asked_of before p w g r earlier
  ]

  pub asked_all : (acts : List Act) → ((w : ℕ) (g : Goal) (r : Reduction) → Contains acts (takes w g r) → Asks g r) → Solves t (asked P acts)
  asked_all [] h = tt
  asked_all (takes v g x ∷ before) h =
      solves_join t (reduction_in_cells P g x.clause x.node) (asked P before) (h v g x (contains_first (takes v g x) before))
      (asked_all before (λ w k r c. h w k r (contains_more (takes v g x) (takes w k r) before c)))
  asked_all (sets v e ∷ before) h = asked_all before (λ w g r c. h w g r (contains_more (sets v e) (takes w g r) before c))
  asked_all (fails v ∷ before) h = asked_all before (λ w g r c. h w g r (contains_more (fails v) (takes w g r) before c))

  -- and what one worker's ask
  pub asked_by_all : (n : ℕ) (acts : List Act) → ((g : Goal) (r : Reduction) → Contains acts (takes n g r) → Asks g r) → Solves t (asked_by P n acts)
  asked_by_all n [] h = tt
  asked_by_all n (takes v g x ∷ before) h =
      let last : List Equation = reduction_in_cells P g x.clause x.node in
      solves_join t (cond (nat_eq v n) last []) (asked_by P n before)
      (equal_holds t last v n (λ is. h g x (subst (λ m. Contains (takes v g x ∷ before) (takes m g x)) is (contains_first (takes v g x) before))))
      (asked_by_all n before (λ k r c. h k r (contains_more (takes v g x) (takes n k r) before c)))
  asked_by_all n (sets v e ∷ before) h = asked_by_all n before (λ g r c. h g r (contains_more (sets v e) (takes n g r) before c))
  asked_by_all n (fails v ∷ before) h = asked_by_all n before (λ g r c. h g r (contains_more (fails v) (takes n g r) before c))

-- So it is with runs.
module _ (t : Substitution) where
  pub added_of : (runs : List RunInCells) → Solves t (all_added runs) → (r : RunInCells) → Contains runs r → Solves t (added_by_run r)
  added_of [] p r c = absurd (contains_none r c)
  added_of (x ∷ runs) p r c = elim (contains_cases x r runs c) [
    | inl is ↦ subst (λ (y : RunInCells). Solves t (added_by_run y)) (sym is) (solves_front t (added_by_run x) (all_added runs) p)
    | inr later ↦ added_of runs (solves_back t (added_by_run x) (all_added runs) p) r later
  ]

  pub added_all : (runs : List RunInCells) → ((r : RunInCells) → Contains runs r → Solves t (added_by_run r)) → Solves t (all_added runs)
  added_all [] h = tt
  added_all (x ∷ runs) h =
      solves_join t (added_by_run x) (all_added runs) (h x (contains_first x runs)) (added_all runs (λ r c. h r (contains_more x r runs c)))

  pub added_by_all : (n long : ℕ) (runs : List RunInCells) → ((r : RunInCells) → Contains runs r → r.worker ≡ n → r.at ≤ long → Solves t (added_by_run r))
      → Solves t (added_by n long runs)
  added_by_all n long [] h = tt
  added_by_all n long (x ∷ runs) h =
      solves_join t (cond (nat_eq x.worker n && leb x.at long) (added_by_run x) []) (added_by n long runs)
      (equal_within_holds t (added_by_run x) x.worker n x.at long (λ worker early. h x (contains_first x runs) worker early))
      (added_by_all n long runs (λ r c. h r (contains_more x r runs c)))
