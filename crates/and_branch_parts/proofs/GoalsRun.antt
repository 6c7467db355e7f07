-- Goals of arithmetic that were run, and calls that were judged.
use Rattle.std.proofs.Common.{ℕ, ◌≡◌, ◌+◌, ◌≤◌, true, false, List, ◌∷◌, ◌++◌}
use Rattle.std.proofs.Common.{map, refl, ap, sym, ◌∙◌, subst, inl, inr, ◌⊎◌, arith, Contains}
use Rattle.std.proofs.lemmas.Bool.{true≢false}
use Rattle.std.proofs.lemmas.List.{map-append}
use Rattle.and_model.specs.Terms.{Term, variable}
use Rattle.and_model.specs.Programs.{Program, Item, call, equal, arithmetic, fail, Arithmetic, clause_at, clause_weight, Of}
use Rattle.and_model.specs.Trees.{QueryTree, call_of, reduce, weight}
use Rattle.and_model.specs.Reached.{ReachedBy, start, stepped, divided, Dead, Step, Steps, none, more}
use Rattle.and_model.specs.Reductions.{Reduction, Makes}
use Rattle.and_model.specs.Stands.{Framed, term_of}
use Rattle.and_model.specs.declared.goal.Goal.{Goal}
use Rattle.and_model.specs.declared.reference.Ref.{Ref}
use Rattle.and_laws.proofs.Order.{reduce_weight}
use Rattle.and_laws.proofs.ClausesOf.{of_applied}
use Rattle.and_cells.specs.Ranges.{NamedProgram}
use Rattle.and_branch_laws.specs.OwnVariables.{OwnVariables, IsLoaded}
use Rattle.and_branch_laws.specs.Judging.{outside, CandidateInCells}
use Rattle.and_branch_laws.specs.Kept.{item_at, task_in, is_call, goal_of, IsCall, Kept}
use Rattle.and_branch_laws.proofs.Keeping
use Rattle.and_branch_laws.proofs.Stepping
use Rattle.and_reduction.specs.Runs.{HasRun, CannotHold}
use Rattle.and_reduction.proofs.KeptRuns.{run_keeps, cannot_dies}
use Rattle.and_branch_parts.specs.Branches.{Held, Lives, IsBranchOf, IsOpenGoal, SameKey}
use Rattle.and_branch_parts.specs.Next.{IsReduced}
use Rattle.and_branch_parts.specs.Rounds.{IsAtMost}
use Rattle.and_branch_parts.specs.Watching.{Watched}
use Rattle.and_branch_parts.proofs.GrownRows.{run_grows, sleeps_on}
use Rattle.and_branch_parts.proofs.LivingGoals.{Found, found, is_kept, is_framed, is_called, free_pair}
use Rattle.and_branch_parts.proofs.CallItems.{open_is_call}

-- ---- What kept goals are

kind_step : (P : NamedProgram) (own : OwnVariables P) (rs : List Reduction) (row : List Ref) (kept : List Framed) (t : QueryTree P.program)
    → Kept P rs row kept t → (f : Framed) → Contains kept f → IsCall P.program f → (term : Term) × (item_at P.program f.goal ≡ call term)
kind_step P own rs row kept t k f h called =
    let (o, path_is, call_is) = Keeping.kept_open P own rs row kept t k f h called in
    open_is_call P.program rs t k.made o f.goal.node f.goal.clause.0 f.goal.item f.frame (Keeping.place_of P own rs row kept t k f h)
    (Keeping.clause_of P own rs row kept t k f h) path_is

kind_by : (P : NamedProgram) (own : OwnVariables P) (rs : List Reduction) (row : List Ref) (kept : List Framed) (t : QueryTree P.program)
    → Kept P rs row kept t → (f : Framed) → Contains kept f → (i : Item) → item_at P.program f.goal ≡ i
    → ((term : Term) × (item_at P.program f.goal ≡ call term)) ⊎ ((a : Arithmetic) × (item_at P.program f.goal ≡ arithmetic a))
kind_by P own rs row kept t k f h (call g) e = inl (g, e)
kind_by P own rs row kept t k f h (equal a b) e = inl (kind_step P own rs row kept t k f h (ap (λ (i : Item). is_call
    (task_in P.program f i)) e))
kind_by P own rs row kept t k f h (arithmetic a) e = inr (a, e)
kind_by P own rs row kept t k f h fail e = inl (kind_step P own rs row kept t k f h (ap (λ (i : Item). is_call (task_in P.program f i)) e))

-- a kept goal is a call or arithmetic
pub kind_of_kept : (P : NamedProgram) (own : OwnVariables P) (rs : List Reduction) (row : List Ref) (kept : List Framed)
    (t : QueryTree P.program)
    → Kept P rs row kept t → (f : Framed) → Contains kept f
    → ((term : Term) × (item_at P.program f.goal ≡ call term)) ⊎ ((a : Arithmetic) × (item_at P.program f.goal ≡ arithmetic a))
kind_of_kept P own rs row kept t k f h = kind_by P own rs row kept t k f h (item_at P.program f.goal) refl

-- ---- Runs

-- A branch that only was marked failed, where its tree is dead.
pub marked_branch : (P : NamedProgram) (old new : Held) (t : QueryTree P.program) → IsBranchOf P old t → SameKey old new
    → new.reductions ≡ old.reductions → new.used ≡ old.used → new.is_failed ≡ true → Dead t → IsBranchOf P new t
marked_branch P old new t x same reductions used failed dead = record {
  made = subst (λ (l : List Reduction). Makes P.program l t) (sym reductions) x.made;
  reached = subst (λ (k : List ℕ). ReachedBy P.program new.limit k t) (sym same.key)
      (subst (λ (n : ℕ). ReachedBy P.program n old.key t) (sym same.limit) x.reached);
  bounded = let e = same.limit in let l = x.bounded in omega arith;
  used = x.used ∙ sym used;
  state = inl (failed, dead);
}

-- One that is not failed lives.
pub live_of : (P : NamedProgram) (b : Held) (t : QueryTree P.program) → b.is_failed ≡ false → IsBranchOf P b t → Lives P b t
live_of P b t live x = elim x.state [ inl dead ↦ absurd (true≢false (sym dead.0 ∙ live)) | inr lives ↦ lives ]

module _ (P : NamedProgram) (loaded : IsLoaded P) (old new : Held) (t : QueryTree P.program) (x : IsBranchOf P old t)
    (live : old.is_failed ≡ false) (same : SameKey old new) (reductions : new.reductions ≡ old.reductions) (used : new.used ≡ old.used)
    (g : Goal) (rest : List Goal) (next : old.right ≡ g ∷ rest) where
  lives : Lives P old t
  lives = live_of P old t live x

  the_goal : Found P old t old.left g rest
  the_goal = found P old t old.left g rest lives (ap (λ (l : List Goal). old.left ++ l) next)

  -- The next goal was run.
  pub run_branch : HasRun P old.row new.row g → new.left ≡ old.left → new.right ≡ rest → new.is_failed ≡ false
      → ((w : Watched) → Contains new.watches w → Contains old.watches w) → IsBranchOf P new t
  run_branch run left_is right_is new_live watches_are =
      let y = the_goal in
      let grows = run_grows P old.row new.row g (free_pair P old t old.left g rest y) run in
      let kept = run_keeps P loaded old.reductions old.row new.row y.front y.f y.back t y.keeps
      (subst (λ (h : Goal). HasRun P old.row new.row h) (sym y.goal_is) run) in
      let keeps : Kept P new.reductions new.row (y.front ++ y.back) t =
      subst (λ (l : List Reduction). Kept P l new.row (y.front ++ y.back) t) (sym reductions) kept in
      let goals : map goal_of (y.front ++ y.back) ≡ new.left ++ new.right =
      map-append goal_of y.front y.back ∙ ap (λ (l : List Goal). l ++ map goal_of y.back) (y.front_is ∙ sym left_is)
      ∙ ap (λ (l : List Goal). new.left ++ l) (y.back_is ∙ sym right_is) in
      record {
        made = subst (λ (l : List Reduction). Makes P.program l t) (sym reductions) x.made;
        reached = subst (λ (k : List ℕ). ReachedBy P.program new.limit k t) (sym same.key)
            (subst (λ (n : ℕ). ReachedBy P.program n old.key t) (sym same.limit) x.reached);
        bounded = let e = same.limit in let l = x.bounded in omega arith;
        used = x.used ∙ sym used;
        state = inr (record {
          kept = y.front ++ y.back;
          keeps = keeps;
          goals = goals;
          long = keeps.long ∙ x.used ∙ sym used;
          live = new_live;
          asleep = λ w h. sleeps_on P old.row new.row w grows (lives.asleep w (watches_are w h));
        });
      }

  -- It cannot hold.
  pub false_branch : CannotHold P old.row g → new.is_failed ≡ true → IsBranchOf P new t
  false_branch cannot failed =
      let y = the_goal in
      marked_branch P old new t x same reductions used failed
      (cannot_dies P loaded old.reductions old.row y.front y.f y.back t y.keeps (is_kept P old t old.left g rest y)
      (subst (λ (h : Goal). CannotHold P old.row h) (sym y.goal_is) cannot))

  -- It is a call without candidates.
  pub idle_branch : (term : Term) → item_at P.program g ≡ call term → ((c : ℕ) → CandidateInCells P old.row g c → ⊥) → new.is_failed ≡ true
      → IsBranchOf P new t
  idle_branch term is_call none_is failed =
      let y = the_goal in
      let h = is_kept P old t old.left g rest y in
      let called = is_called P old t old.left g rest y term is_call in
      let (o, path_is, calls) = Keeping.kept_open P loaded.own old.reductions old.row (y.front ++ y.f ∷ y.back) t y.keeps y.f h called in
      let none_there : (c : ℕ) → CandidateInCells P old.row y.f.goal c → ⊥ =
      subst (λ (i : Goal). (c : ℕ) → CandidateInCells P old.row i c → ⊥) (sym y.goal_is) none_is in
      marked_branch P old new t x same reductions used failed
      (Stepping.none_is_dead P loaded old.reductions old.row (y.front ++ y.f ∷ y.back) t y.keeps y.f h called o path_is outside (λ e. cc)
      none_there)

-- ---- A call that was reduced by the one clause that can be a candidate

pub last_branch : (P : NamedProgram) (loaded : IsLoaded P) (old new : Held) (t : QueryTree P.program) → IsBranchOf P old t
    → old.is_failed ≡ false → SameKey old new → (g : Goal) (rest : List Goal) → old.right ≡ g ∷ rest
    → (term : Term) → item_at P.program g ≡ call term → (c : ℕ) → IsAtMost P old.row g c
    → old.used + clause_weight (clause_at P.program c) ≤ old.limit → IsReduced P old new c
    → (u : QueryTree P.program) × IsBranchOf P new u × Steps t u
last_branch P loaded old new t x live same g rest next term is_call c last fits is_reduced =
    let lives = live_of P old t live x in
    let y = found P old t old.left g rest lives (ap (λ (l : List Goal). old.left ++ l) next) in
    let kept : List Framed = y.front ++ y.f ∷ y.back in
    let h = is_kept P old t old.left g rest y in
    let called = is_called P old t old.left g rest y term is_call in
    let framed = is_framed P old t old.left g rest y in
    let (o, path_is, calls) = Keeping.kept_open P loaded.own old.reductions old.row kept t y.keeps y.f h called in
    let last_there : IsAtMost P old.row y.f.goal c = subst (λ (i : Goal). IsAtMost P old.row i c) (sym y.goal_is) last in
    let of_it : Of P.program (call_of t o) c =
    subst (λ (z : Term). Of P.program z c) (sym calls)
    (of_applied P.program (λ q k. variable y.f.frame k) (term_of P.program y.f.goal) c last_there.0) in
    let step : Step t (reduce t o c of_it) =
    Stepping.sole_steps P loaded old.reductions old.row kept t y.keeps y.f h called o path_is outside (λ e. cc) c of_it last_there.1 in
    let weighs : weight (reduce t o c of_it) ≤ old.limit = let w = x.used in omega (arith, reduce_weight t o c of_it) in
    let reached : ReachedBy P.program old.limit old.key (reduce t o c of_it) = stepped old.key t
    (reduce t o c of_it) x.reached step weighs in
    let still : ReachedBy P.program new.limit new.key (reduce t o c of_it) =
    subst (λ (k : List ℕ). ReachedBy P.program new.limit k (reduce t o c of_it)) (sym same.key)
    (subst (λ (n : ℕ). ReachedBy P.program n old.key (reduce t o c of_it)) (sym same.limit) reached) in
    let is_open : IsOpenGoal P old.reductions t o g =
    subst (λ (i : Goal). IsOpenGoal P old.reductions t o i) y.goal_is
    (record { frame = y.f.frame; place = framed.0; clause = framed.1; path_is = path_is }) in
    (reduce t o c of_it, is_reduced.stands t o g rest of_it lives x.bounded next is_open still, more t t (reduce t o c of_it) (none t) step)

-- ---- Weights

pub reached_fits : (P : Program) (limit : ℕ) (key : List ℕ) (t : QueryTree P) → ReachedBy P limit key t → weight t ≤ limit
reached_fits P limit key t (start low) = low
reached_fits P limit key t (stepped k s u r step low) = low
reached_fits P limit key t (divided k s c u r split low) = low

pub branch_fits : (P : NamedProgram) (b : Held) (t : QueryTree P.program) → IsBranchOf P b t → b.used ≤ b.limit
branch_fits P b t x = let low = reached_fits P.program b.limit b.key t x.reached in let w = x.used in omega arith
