-- What is asked by acts and runs, act by act.
use Rattle.std.proofs.Common.{ℕ, ◌≡◌, ◌≤◌, inl, inr, Bool, true, false, cond, nat_eq, leb, ◌&&◌, List, [], ◌∷◌, filter, refl, sym, ap, subst, ◌∙◌, Contains}
use Rattle.std.proofs.Common.{eq-eqb, le-leb}
use Rattle.std.proofs.lemmas.List.Elements.{Contains-append_left, Contains-append_right, Contains-append_cases}
use Rattle.and_laws.proofs.Solving.{solves_front, solves_back, solves_join}
use Rattle.and_model.specs.Terms.{Substitution, apply_all}
use Rattle.and_model.specs.Solutions.{Solves}
use Rattle.and_model.specs.Programs
use Rattle.and_model.specs.Programs.{Program, Arithmetic, arithmetic}
use Rattle.and_model.specs.Closure.{added, needs}
use Rattle.and_model.specs.Reductions.{Reduction}
use Rattle.and_model.specs.declared.goal.Goal.{Goal}
use Rattle.and_model.specs.declared.reference.Ref.{Ref}
use Rattle.and_branch_laws.specs.Reducing.{reduction_in_cells}
use Rattle.and_branch_laws.specs.Variables.{cells_from}
use Rattle.and_cells.specs.Ranges.{NamedProgram}
use Rattle.and_cells.specs.Meaning.{Words}
use Rattle.and_store_laws.proofs.Lists.{contains_first, contains_more, contains_cases, contains_none}
use Rattle.and_worker_laws.specs.Acts
use Rattle.and_worker_laws.specs.Acts.{Act, RunInCells, asked, added_by_run, all_added, added_by}
use Rattle.and_handed.specs.Handed
use Rattle.and_handed.specs.Handed.{HasAll, SolvesAll, HasTerms, SolvesRun}
use Rattle.and_handed.specs.declared.told.Ran.{Ran}
use Rattle.and_closing_laws.specs.Acting.{Ended, IsRunOf, AreRunsOf, AreAllRuns}

pub in_filter : {X : Type 0} (p : X → Bool) (xs : List X) (x : X) → Contains xs x → p x ≡ true → Contains (filter p xs) x
in_filter p [] x among passes = absurd (contains_none x among)
in_filter p (y ∷ xs) x among passes = elim (contains_cases y x xs among) [
  | inl same ↦ subst (λ b. Contains (cond b (y ∷ filter p xs) (filter p xs)) x) (sym (ap p (sym same) ∙ passes))
      (subst (λ z. Contains (z ∷ filter p xs) x) same (contains_first x (filter p xs)))
  | inr more ↦ later (p y) (filter p xs) (in_filter p xs x more passes)
]
  where
    later : (b : Bool) (ys : List _) → Contains ys x → Contains (cond b (y ∷ ys) ys) x
    later true ys there = contains_more y x ys there
    later false ys there = there

-- ---- Reductions

pub asked_has : (P : Program) (t : Substitution) (acts : List Act) (n : ℕ) (g : Goal) (r : Reduction) → Contains acts (Acts.takes n g r)
    → Solves t (asked P acts) → Solves t (reduction_in_cells P g r.clause r.node)
asked_has P t [] n g r among solves = absurd (contains_none (Acts.takes n g r) among)
asked_has P t (Acts.takes m h s ∷ acts) n g r among solves = elim (contains_cases (Acts.takes m h s) (Acts.takes n g r) acts among) [
  | inl same ↦
      let goal : g ≡ h = cc in
      let reduction : r ≡ s = cc in
      subst (λ z. Solves t (reduction_in_cells P z r.clause r.node)) (sym goal)
      (subst (λ (z : Reduction). Solves t (reduction_in_cells P h z.clause z.node)) (sym reduction)
      (solves_front t (reduction_in_cells P h s.clause s.node) (asked P acts) solves))
  | inr more ↦ asked_has P t acts n g r more (solves_back t (reduction_in_cells P h s.clause s.node) (asked P acts) solves)
]
asked_has P t (Acts.sets m d ∷ acts) n g r among solves = elim (contains_cases (Acts.sets m d) (Acts.takes n g r) acts among) [
  | inl same ↦ absurd (cc)
  | inr more ↦ asked_has P t acts n g r more solves
]
asked_has P t (Acts.fails m ∷ acts) n g r among solves = elim (contains_cases (Acts.fails m) (Acts.takes n g r) acts among) [
  | inl same ↦ absurd (cc)
  | inr more ↦ asked_has P t acts n g r more solves
]

pub asked_by_has : (P : Program) (t : Substitution) (acts : List Act) (n : ℕ) (g : Goal) (r : Reduction) → Contains acts (Acts.takes n g r)
    → Solves t (Acts.asked_by P n acts) → Solves t (reduction_in_cells P g r.clause r.node)
asked_by_has P t [] n g r among solves = absurd (contains_none (Acts.takes n g r) among)
asked_by_has P t (Acts.takes m h s ∷ acts) n g r among solves = elim (contains_cases (Acts.takes m h s) (Acts.takes n g r) acts among) [
  | inl same ↦
      let worker : n ≡ m = cc in
      let goal : g ≡ h = cc in
      let reduction : r ≡ s = cc in
      let own : nat_eq m n ≡ true = eq-eqb m n (sym worker) in
      let one : Solves t (reduction_in_cells P h s.clause s.node) = subst (λ b. Solves t (cond b (reduction_in_cells P h s.clause s.node) [])) own
      (solves_front t (cond (nat_eq m n) (reduction_in_cells P h s.clause s.node) []) (Acts.asked_by P n acts) solves) in
      subst (λ z. Solves t (reduction_in_cells P z r.clause r.node)) (sym goal)
      (subst (λ (z : Reduction). Solves t (reduction_in_cells P h z.clause z.node)) (sym reduction) one)
  | inr more ↦ asked_by_has P t acts n g r more
      (solves_back t (cond (nat_eq m n) (reduction_in_cells P h s.clause s.node) []) (Acts.asked_by P n acts) solves)
]
asked_by_has P t (Acts.sets m d ∷ acts) n g r among solves = elim (contains_cases (Acts.sets m d) (Acts.takes n g r) acts among) [
  | inl same ↦ absurd (cc)
  | inr more ↦ asked_by_has P t acts n g r more solves
]
asked_by_has P t (Acts.fails m ∷ acts) n g r among solves = elim (contains_cases (Acts.fails m) (Acts.takes n g r) acts among) [
  | inl same ↦ absurd (cc)
  | inr more ↦ asked_by_has P t acts n g r more solves
]

pub says_asked : (P : Program) (t : Substitution) (acts : List Act)
    → ((n : ℕ) (g : Goal) (r : Reduction) → Contains acts (Acts.takes n g r) → Solves t (reduction_in_cells P g r.clause r.node)) → Solves t (asked P acts)
says_asked P t [] all = tt
says_asked P t (Acts.takes m h s ∷ acts) all =
    solves_join t (reduction_in_cells P h s.clause s.node) (asked P acts) (all m h s (contains_first (Acts.takes m h s) acts))
    (says_asked P t acts (λ n g r c. all n g r (contains_more (Acts.takes m h s) (Acts.takes n g r) acts c)))
says_asked P t (Acts.sets m d ∷ acts) all = says_asked P t acts (λ n g r c. all n g r (contains_more (Acts.sets m d) (Acts.takes n g r) acts c))
says_asked P t (Acts.fails m ∷ acts) all = says_asked P t acts (λ n g r c. all n g r (contains_more (Acts.fails m) (Acts.takes n g r) acts c))

-- ---- Runs

pub added_has : (t : Substitution) (runs : List RunInCells) (x : RunInCells) → Contains runs x → Solves t (all_added runs) → Solves t (added_by_run x)
added_has t [] x among solves = absurd (contains_none x among)
added_has t (y ∷ runs) x among solves = elim (contains_cases y x runs among) [
  | inl same ↦ subst (λ z. Solves t (added_by_run z)) (sym same) (solves_front t (added_by_run y) (all_added runs) solves)
  | inr more ↦ added_has t runs x more (solves_back t (added_by_run y) (all_added runs) solves)
]

pub added_by_has : (t : Substitution) (n long : ℕ) (runs : List RunInCells) (x : RunInCells) → Contains runs x → x.worker ≡ n → x.at ≤ long
    → Solves t (added_by n long runs) → Solves t (added_by_run x)
added_by_has t n long [] x among own early solves = absurd (contains_none x among)
added_by_has t n long (y ∷ runs) x among own early solves = elim (contains_cases y x runs among) [
  | inl same ↦
      let one : (nat_eq x.worker n && leb x.at long) ≡ true = ap (λ b. b && leb x.at long) (eq-eqb x.worker n own) ∙ le-leb x.at long early in
      let test : (nat_eq y.worker n && leb y.at long) ≡ true = subst (λ (z : RunInCells). (nat_eq z.worker n && leb z.at long) ≡ true) same one in
      subst (λ z. Solves t (added_by_run z)) (sym same)
      (subst (λ b. Solves t (cond b (added_by_run y) [])) test
      (solves_front t (cond (nat_eq y.worker n && leb y.at long) (added_by_run y) []) (added_by n long runs) solves))
  | inr more ↦ added_by_has t n long runs x more own early
      (solves_back t (cond (nat_eq y.worker n && leb y.at long) (added_by_run y) []) (added_by n long runs) solves)
]

pub says_added : (t : Substitution) (runs : List RunInCells) → ((x : RunInCells) → Contains runs x → Solves t (added_by_run x)) → Solves t (all_added runs)
says_added t [] all = tt
says_added t (x ∷ runs) all =
    solves_join t (added_by_run x) (all_added runs) (all x (contains_first x runs)) (says_added t runs (λ y c. all y (contains_more x y runs c)))

-- ---- The run of a worker's own list

module _ (P : NamedProgram) (first : List Ref) where
  own_run : (who : Ended) (ran : List Ran) (own : List RunInCells) → AreRunsOf P first who ran own → (r : Ran) → Contains ran r
      → (x : RunInCells) × Contains own x × IsRunOf P first who r x
  own_run who [] own are r among = absurd (contains_none r among)
  own_run who (s ∷ ran) [] are r among = absurd are
  own_run who (s ∷ ran) (y ∷ own) are r among = elim (contains_cases s r ran among) [
    | inl same ↦ (y, contains_first y own, subst (λ z. IsRunOf P first who z y) (sym same) are.0)
    | inr more ↦ let (x, there, is) = own_run who ran own are.1 r more in (x, contains_more y x own there, is)
  ]

  run_own : (who : Ended) (ran : List Ran) (own : List RunInCells) → AreRunsOf P first who ran own → (x : RunInCells) → Contains own x
      → (r : Ran) × Contains ran r × IsRunOf P first who r x
  run_own who ran [] are x among = absurd (contains_none x among)
  run_own who [] (y ∷ own) are x among = absurd are
  run_own who (s ∷ ran) (y ∷ own) are x among = elim (contains_cases y x own among) [
    | inl same ↦ (s, contains_first s ran, subst (IsRunOf P first who s) (sym same) are.0)
    | inr more ↦ let (r, there, is) = run_own who ran own are.1 x more in (r, contains_more s r ran there, is)
  ]

  -- Each run that a worker tells is there,
  pub run_in : (ended : List Ended) (runs : List RunInCells) → AreAllRuns P first ended runs → (who : Ended) → Contains ended who
      → (r : Ran) → Contains who.0.ran.items r → (x : RunInCells) × Contains runs x × IsRunOf P first who r x
  run_in [] runs are who one r among = absurd (contains_none who one)
  run_in (o ∷ ended) runs (own, others, is, first_are, others_are) who one r among = elim (contains_cases o who ended one) [
    | inl same ↦
        let (x, there, of) = own_run o o.0.ran.items own first_are r (subst (λ (z : Ended). Contains z.0.ran.items r) same among) in
        (x, subst (λ l. Contains l x) (sym is) (Contains-append_left own others x there), subst (λ z. IsRunOf P first z r x) (sym same) of)
    | inr more ↦
        let (x, there, of) = run_in ended others others_are who more r among in
        (x, subst (λ l. Contains l x) (sym is) (Contains-append_right own others x there), of)
  ]

  -- and no other.
  pub of_run : (ended : List Ended) (runs : List RunInCells) → AreAllRuns P first ended runs → (x : RunInCells) → Contains runs x
      → (who : Ended) × Contains ended who × ((r : Ran) × Contains who.0.ran.items r × IsRunOf P first who r x)
  of_run [] runs are x among = absurd (contains_none x (subst (λ l. Contains l x) are among))
  of_run (o ∷ ended) runs (own, others, is, first_are, others_are) x among =
      elim (Contains-append_cases own others x (subst (λ l. Contains l x) is among)) [
        | inl one ↦ (o, contains_first o ended, run_own o o.0.ran.items own first_are x one)
        | inr other ↦ let (who, there, of) = of_run ended others others_are x other in (who, contains_more o who ended there, of)
      ]

  -- ---- What a run asks

  same_arithmetic : (base : ℕ) (a : Arithmetic) → Handed.arithmetic_at base a ≡ Acts.arithmetic_at base a
  same_arithmetic base (Programs.is l r) = refl
  same_arithmetic base (Programs.compare o a b) = refl

  pub needs_at : (base : ℕ) (a : Arithmetic) → needs (Acts.arithmetic_at base a) ≡ apply_all (cells_from base) (needs a)
  needs_at base (Programs.is l r) = refl
  needs_at base (Programs.compare o a b) = refl

  -- A run has its terms alone.
  pub run_solved : (who : Ended) (r : Ran) (x : RunInCells) → IsRunOf P first who r x → (w : Words) → HasAll w first r.judged.value.pass.seen
      → (t : Substitution) → SolvesAll P w first r.judged.value.pass.seen t → Solves t (added_by_run x) → SolvesRun P first t r
  run_solved who r x of w has t solves asks what ts terms =
      let one = terms.is_arithmetic in
      let other = of.terms.is_arithmetic in
      let both : arithmetic what ≡ arithmetic x.what = sym one ∙ other in
      let same : what ≡ x.what = cc in
      let here : ts ≡ x.terms = sym (terms.terms w has t solves) ∙ ap (λ a. apply_all t (apply_all (cells_from r.goal.base) (needs a))) same
      ∙ of.terms.terms w has t solves in
      let is_added : added (Acts.arithmetic_at x.goal.base x.what) x.terms ≡ added (Handed.arithmetic_at r.goal.base what) ts =
      ap (λ (g : Goal). added (Acts.arithmetic_at g.base x.what) x.terms) of.goal
      ∙ ap (λ a. added a x.terms) (sym (same_arithmetic r.goal.base x.what))
      ∙ ap (λ a. added (Handed.arithmetic_at r.goal.base a) x.terms) (sym same)
      ∙ ap (added (Handed.arithmetic_at r.goal.base what)) (sym here) in
      subst (Solves t) is_added asks

  -- What asks all that a worker's run can ask asks what the run does.
  pub solved_run : (who : Ended) (r : Ran) (x : RunInCells) → IsRunOf P first who r x → (t : Substitution) → SolvesRun P first t r
      → Solves t (added_by_run x)
  solved_run who r x of t asks =
      subst (λ (g : Goal). Solves t (added (Acts.arithmetic_at g.base x.what) x.terms)) (sym of.goal)
      (subst (λ a. Solves t (added a x.terms)) (same_arithmetic r.goal.base x.what) (asks x.what x.terms of.terms))
