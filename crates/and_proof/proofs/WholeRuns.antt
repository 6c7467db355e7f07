-- Arithmetic that is run in a whole tree.
use Rattle.std.proofs.Common.{◌≡◌, List, [], ◌∷◌, ◌++◌, map, ap, sym, ◌∙◌, subst, inl, inr, arith}
use Rattle.std.proofs.Common.{Contains}
use Rattle.std.proofs.lemmas.List.{map-append}
use Rattle.std.proofs.lemmas.List.Elements.{Contains-append_left, Contains-append_right, Contains-append_cases}
use Rattle.and_model.specs.Trees.{QueryTree, HasOutcome}
use Rattle.and_model.specs.Reductions.{Reduction}
use Rattle.and_model.specs.Stands.{Framed}
use Rattle.and_model.specs.declared.goal.Goal.{Goal}
use Rattle.and_model.specs.declared.reference.Ref.{Ref}
use Rattle.and_laws.proofs.Keeping
use Rattle.and_laws.proofs.Order.{below_self}
use Rattle.and_laws.proofs.Ordered.{contains_first, contains_more, contains_cases, contains_none}
use Rattle.and_cells.specs.Ranges.{NamedProgram}
use Rattle.and_cells.specs.Meaning.{IsSettled}
use Rattle.and_branch_laws.specs.OwnVariables.{IsLoaded}
use Rattle.and_branch_laws.specs.Judging.{NoCall}
use Rattle.and_branch_laws.specs.Kept.{goal_of, Kept}
use Rattle.and_branch_laws.proofs.Lists.{Parts, parted}
use Rattle.and_step_laws.specs.Runs.{CanBeRun, IsWaiting, HasRun, CannotHold}
use Rattle.and_proof.specs.Unfolding.{IsWholeIn, AllWait}
use Rattle.and_step_laws.proofs.KeptGoals.{kept_can_be_run}
use Rattle.and_step_laws.proofs.KeptRuns.{run_keeps, cannot_dies}
use Rattle.and_proof.proofs.Stepped.{is_arithmetic}

module _ (P : NamedProgram) (loaded : IsLoaded P) (rs : List Reduction) (row : List Ref) (all before : List Goal) (g : Goal) (behind : List Goal)
    (t : QueryTree P.program) (x : IsWholeIn P rs row all t) (is : all ≡ before ++ g ∷ behind) where
  at : Parts goal_of x.kept before g behind
  at = parted goal_of x.kept before g behind (x.goals ∙ is)

  abbrev f : Framed
  f = (at).middle

  keeps : Kept P rs row ((at).front ++ f ∷ (at).back) t
  keeps = let p = at in subst (λ l. Kept P rs row l t) p.is x.keeps

  f_kept : Contains ((at).front ++ f ∷ (at).back) f
  f_kept = let p = at in Contains-append_right p.front (f ∷ p.back) f (contains_first f p.back)

  no_call : NoCall P ((at).front ++ f ∷ (at).back)
  no_call = let p = at in subst (NoCall P) p.is x.no_call

  -- Each goal can be run.
  pub can_be_run : CanBeRun P row g
  can_be_run =
      let p = at in
      let (a, item) = is_arithmetic P.program f (no_call f f_kept) in
      subst (λ (h : Goal). CanBeRun P row h) p.middle_is
      (kept_can_be_run P loaded rs row (p.front ++ f ∷ p.back) t keeps f f_kept a item)

  -- Where it was run, the others are left.
  pub run_whole : (new : List Ref) → HasRun P row new g → IsWholeIn P rs new (before ++ behind) t
  run_whole new run =
      let p = at in
      let kept : Kept P rs new (p.front ++ p.back) t = run_keeps P loaded rs row new p.front f p.back t keeps
      (subst (λ (h : Goal). HasRun P row new h) (sym p.middle_is) run) in
      record {
        kept = p.front ++ p.back;
        keeps = kept;
        goals = map-append goal_of p.front p.back ∙ ap (λ l. l ++ map goal_of p.back) p.front_is ∙ ap (λ l. before ++ l) p.back_is;
        no_call = λ h i. elim (Contains-append_cases p.front p.back h i) [
          | inl j ↦ no_call h (Contains-append_left p.front (f ∷ p.back) h j)
          | inr j ↦ no_call h (Contains-append_right p.front (f ∷ p.back) h (contains_more f h p.back j))
        ];
        short = let a = kept.long in let k = x.keeps in let b = k.long in let s = x.short in omega (arith, a, b, s);
      }

  -- Where it cannot hold, there is no outcome.
  pub false_none : CannotHold P row g → HasOutcome t → ⊥
  false_none cannot outcome =
      let p = at in
      Keeping.dead_has_none t t (below_self t) outcome
      (cannot_dies P loaded rs row p.front f p.back t keeps f_kept (subst (λ (h : Goal). CannotHold P row h) (sym p.middle_is) cannot))

-- A whole tree's row is settled.
pub whole_settled : (P : NamedProgram) (rs : List Reduction) (row : List Ref) (all : List Goal) (t : QueryTree P.program) → IsWholeIn P rs row all t
    → IsSettled P row
whole_settled P rs row all t x = let k = x.keeps in k.settled

-- One more goal waits.
pub one_more_waits : (P : NamedProgram) (row : List Ref) (gs : List Goal) (g : Goal) → AllWait P row gs → IsWaiting P row g
    → AllWait P row (gs ++ g ∷ [])
one_more_waits P row gs g all one h i = elim (Contains-append_cases gs (g ∷ []) h i) [
  | inl j ↦ all h j
  | inr j ↦ elim (contains_cases g h [] j) [
    | inl e ↦ subst (IsWaiting P row) (sym e) one
    | inr m ↦ absurd (contains_none h m)
  ]
]
