-- The goals of a branch that is not failed, and what it keeps of each.
use Rattle.std.proofs.Common.{ℕ, ◌≡◌, ◌+◌, false, List, [], ◌∷◌, ◌++◌, length, map, ap, sym, ◌∙◌, subst, Contains}
use Rattle.std.proofs.lemmas.List.Elements.{All-contains}
use Rattle.and_model.specs.Terms.{Path, Term, variables_of}
use Rattle.and_model.specs.Programs.{Item, call, arithmetic, Arithmetic}
use Rattle.and_model.specs.Trees.{QueryTree, Open, path}
use Rattle.and_model.specs.Stands.{Framed, IsFramed, term_of}
use Rattle.and_model.specs.Store.{is_half}
use Rattle.and_model.specs.declared.goal.Goal.{Goal}
use Rattle.and_laws.proofs.Placing.{place_once}
use Rattle.and_laws.proofs.Ordered.{middle_has}
use Rattle.and_cells.specs.Ranges.{NamedProgram, IsGoalInRange}
use Rattle.and_cells.specs.Seen.{word_at}
use Rattle.and_branch_laws.specs.OwnVariables.{IsLoaded}
use Rattle.and_branch_laws.specs.Kept.{item_at, node_item_at, task_in, is_call, IsCall, HasFreePair, goal_of, Kept}
use Rattle.and_branch_laws.proofs.Asking
use Rattle.and_branch_laws.proofs.Lists.{parted}
use Rattle.and_branch_laws.specs.Goals.{CanBeJudged}
use Rattle.and_reduction.specs.Runs.{CanBeRun, HasUnnamedPair}
use Rattle.and_reduction.proofs.KeptGoals.{kept_pair_is_unnamed}
use Rattle.and_branch_parts.specs.Branches.{Held, Lives, IsOpenGoal}

-- ---- A goal that is kept

-- This goal is kept, between these others.
pub record Found (P : NamedProgram) (b : Held) (t : QueryTree P.program) (before : List Goal) (g : Goal) (behind : List Goal) : Type 0 where
  pub front : List Framed
  pub f : Framed
  pub back : List Framed
  pub keeps : Kept P b.reductions b.row (front ++ f ∷ back) t
  pub front_is : map goal_of front ≡ before
  pub goal_is : goal_of f ≡ g
  pub back_is : map goal_of back ≡ behind

pub found : (P : NamedProgram) (b : Held) (t : QueryTree P.program) (before : List Goal) (g : Goal) (behind : List Goal) → Lives P b t
    → b.left ++ b.right ≡ before ++ g ∷ behind → Found P b t before g behind
found P b t before g behind lives e =
    let p = parted goal_of lives.kept before g behind (lives.goals ∙ e) in record {
      front = p.front;
      f = p.middle;
      back = p.back;
      keeps = subst (λ (l : List Framed). Kept P b.reductions b.row l t) p.is lives.keeps;
      front_is = p.front_is;
      goal_is = p.middle_is;
      back_is = p.back_is;
    }

module _ (P : NamedProgram) (b : Held) (t : QueryTree P.program) (before : List Goal) (g : Goal) (behind : List Goal)
    (x : Found P b t before g behind) where
  pub is_kept : Contains (x.front ++ x.f ∷ x.back) x.f
  is_kept = middle_has x.front x.back x.f

  pub is_framed : IsFramed b.reductions x.f
  is_framed = let k = x.keeps in All-contains (IsFramed b.reductions) (x.front ++ x.f ∷ x.back) x.f k.framed is_kept

  -- A call is one of the kept calls.
  pub is_called : (term : Term) → item_at P.program g ≡ call term → IsCall P.program x.f
  is_called term e =
      let item : item_at P.program x.f.goal ≡ call term = ap (λ (h : Goal). item_at P.program h) x.goal_is ∙ e in
      ap (λ (i : Item). is_call (task_in P.program x.f i)) item

  pub whole_cells : IsLoaded P → (v : Path × ℕ) → Contains (variables_of (term_of P.program g)) v
      → is_half (word_at b.row (g.base + 1 + v.1)) ≡ false
  whole_cells loaded v =
      subst (λ (h : Goal). Contains (variables_of (term_of P.program h)) v → is_half (word_at b.row (h.base + 1 + v.1)) ≡ false) x.goal_is
      (λ m. Asking.goal_cells_whole P loaded.own b.reductions b.row (x.front ++ x.f ∷ x.back) t x.keeps x.f is_kept v m)

  pub goal_in_range : IsGoalInRange P (length b.row) g
  goal_in_range =
      let k = x.keeps in
      subst (λ (h : Goal). IsGoalInRange P (length b.row) h) x.goal_is
      (All-contains (λ (f : Framed). IsGoalInRange P (length b.row) f.goal) (x.front ++ x.f ∷ x.back) x.f k.in_range is_kept)

  pub free_pair : HasFreePair P b.row g (node_item_at P g)
  free_pair =
      let k = x.keeps in
      subst (λ (h : Goal). HasFreePair P b.row h (node_item_at P h)) x.goal_is
      (All-contains (λ (f : Framed). HasFreePair P b.row f.goal (node_item_at P f.goal)) (x.front ++ x.f ∷ x.back) x.f k.free is_kept)

  pub can_be_judged : IsLoaded P → (term : Term) → item_at P.program g ≡ call term → CanBeJudged P b.row g
  can_be_judged loaded term e = record { in_range = goal_in_range; term = term; is_call = e; whole = whole_cells loaded }

  pub can_be_run : IsLoaded P → (a : Arithmetic) → item_at P.program g ≡ arithmetic a → CanBeRun P b.row g
  can_be_run loaded a e =
      let k = x.keeps in record {
        in_range = goal_in_range;
        what = a;
        is_arithmetic = e;
        whole = whole_cells loaded;
        free = free_pair;
        unnamed = subst (λ (h : Goal). HasUnnamedPair P b.row h (node_item_at P h)) x.goal_is
            (kept_pair_is_unnamed P loaded b.reductions b.row (x.front ++ x.f ∷ x.back) t k x.f is_kept);
      }

  -- The path of the open goal that it is.
  pub path_of : (o : Open t) → IsOpenGoal P b.reductions t o g → path t o ≡ x.f.frame ++ x.f.goal.item ∷ []
  path_of o is_open =
      let k = x.keeps in
      let frames : is_open.frame ≡ x.f.frame =
      place_once P.program b.reductions t k.made g.node x.f.goal.node (ap (λ (h : Goal). h.node) (sym x.goal_is)) is_open.frame x.f.frame
      is_open.place is_framed.0 in
      is_open.path_is ∙ ap (λ (q : Path). q ++ g.item ∷ []) frames ∙ ap (λ (h : Goal). x.f.frame ++ h.item ∷ []) (sym x.goal_is)
