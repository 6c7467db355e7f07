-- Where nothing is to be done for any goal, no goal is determinate.
use Rattle.std.proofs.Common.{ℕ, ◌≡◌, true, List, [], ◌∷◌, map, ap, sym, ◌∙◌, subst, inl, inr, arith, Contains}
use Rattle.std.proofs.lemmas.Bool.{true≢false}
use Rattle.and_model.specs.Programs.{Program, Item, Arithmetic, arithmetic}
use Rattle.and_model.specs.Solutions.{Equation}
use Rattle.and_model.specs.Trees.{QueryTree, Open, Closed}
use Rattle.and_model.specs.Reached.{Dead}
use Rattle.and_model.specs.Stands.{Framed}
use Rattle.and_model.specs.declared.goal.Goal.{Goal}
use Rattle.and_laws.proofs.Ordered.{contains_first, contains_more, contains_cases, contains_none}
use Rattle.and_cells.specs.Ranges.{NamedProgram}
use Rattle.and_branch_laws.specs.OwnVariables.{IsLoaded}
use Rattle.and_branch_laws.specs.States.{StateOf, failed, determinate, IsSole, Fits}
use Rattle.and_branch_laws.specs.Judging.{CandidateInCells, FitsBehind, NoneIsGround}
use Rattle.and_branch_laws.specs.Kept.{item_at, task_in, is_call, IsCall, goal_of}
use Rattle.and_branch_laws.proofs.OneState
use Rattle.and_branch_laws.proofs.Judging
use Rattle.and_branch_parts.specs.Branches.{Held, Lives, IsBranchOf}
use Rattle.and_branch_parts.specs.Rounds.{IsIdle, IsStill}
use Rattle.and_branch_parts.proofs.KeptCalls.{open_kept}
use Rattle.and_branch_parts.proofs.GoalsRun.{kind_of_kept}

pub image_kept : (kept : List Framed) (f : Framed) → Contains kept f → Contains (map goal_of kept) (goal_of f)
image_kept [] f h = absurd (contains_none f h)
image_kept (x ∷ kept) f h = elim (contains_cases x f kept h) [
  | inl e ↦ subst (λ (z : Framed). Contains (map goal_of (x ∷ kept)) (goal_of z)) (sym e) (contains_first (goal_of x) (map goal_of kept))
  | inr i ↦ contains_more (goal_of x) (goal_of f) (map goal_of kept) (image_kept kept f i)
]

-- A dead tree has no determinate goal.
pub dead_is_not : (P : NamedProgram) (limit : ℕ) (t : QueryTree P.program) (o : Open t) (c : ℕ) → Dead t
    → StateOf P.program limit t (determinate o c) → ⊥
dead_is_not P limit t o c dead state =
    let same : determinate o c ≡ failed = OneState.one_state P.program limit t (determinate o c) failed state dead in
    absurd (cc)

module _ (P : NamedProgram) (loaded : IsLoaded P) (b : Held) (t : QueryTree P.program) (lives : Lives P b t) (still : IsStill P b) where
  idle_kept : (f : Framed) → Contains lives.kept f → IsIdle P b.limit b.row f.goal
  idle_kept f h = still f.goal (subst (λ (l : List Goal). Contains l f.goal) lives.goals (image_kept lives.kept f h))

  none_ground : NoneIsGround P b.row lives.kept
  none_ground f a us h item read ground =
      let idle = idle_kept f h in
      idle.waits a us item read ground

  pub still_is_not : (o : Open t) (c : ℕ) → StateOf P.program b.limit t (determinate o c) → ⊥
  still_is_not o c state =
      let k = lives.keeps in
      let es : List Equation = state.0 in
      let gs : List Arithmetic = state.1 in
      let alive = state.2 in
      let sole : IsSole t es o c = state.3 in
      let fits : Fits b.limit t c = state.4 in
      let x = open_kept P b.reductions b.row lives.kept t k o in
      let closed : Closed t es gs = alive.0 in
      let one : CandidateInCells P b.row x.f.goal c =
      Judging.candidate_of_cells P loaded b.reductions b.row lives.kept t k es gs closed x.f x.there x.called o x.path_is c sole.0 in
      let only : (d : ℕ) → CandidateInCells P b.row x.f.goal d → d ≡ c =
      λ d y. sole.1 d (Judging.candidate_in_tree P loaded b.reductions b.row lives.kept t k none_ground es gs closed x.f x.there x.called o
      x.path_is d y) in
      let room : FitsBehind P b.limit b.row c = let long = k.long in omega arith in
      elim (kind_of_kept P loaded.own b.reductions b.row lives.kept t k x.f x.there) [
        | inl call_is ↦
            let idle = idle_kept x.f x.there in
            idle.several call_is.0 call_is.1 c (one, only) room
        | inr run_is ↦ absurd (not_both P.program x.f run_is.0 run_is.1 x.called)
      ]
    where
      not_both : (Q : Program) (f : Framed) (a : Arithmetic) → item_at Q f.goal ≡ arithmetic a → IsCall Q f → ⊥
      not_both Q f a e called = true≢false (sym called ∙ ap (λ (i : Item). is_call (task_in Q f i)) e)

-- So it is of each branch that is still, or marked failed.
pub still_branch : (P : NamedProgram) (loaded : IsLoaded P) (b : Held) (t : QueryTree P.program) → IsBranchOf P b t → IsStill P b
    → (o : Open t) (c : ℕ) → StateOf P.program b.limit t (determinate o c) → ⊥
still_branch P loaded b t x still o c state = elim x.state [
  | inl dead ↦ dead_is_not P b.limit t o c dead.1 state
  | inr lives ↦ still_is_not P loaded b t lives still o c state
]

pub failed_branch : (P : NamedProgram) (b : Held) (t : QueryTree P.program) → IsBranchOf P b t → b.is_failed ≡ true
    → (o : Open t) (c : ℕ) → StateOf P.program b.limit t (determinate o c) → ⊥
failed_branch P b t x failed_is o c state = elim x.state [
  | inl dead ↦ dead_is_not P b.limit t o c dead.1 state
  | inr lives ↦ absurd (true≢false (sym failed_is ∙ lives.live))
]
