-- A goal that a branch keeps whose row is part of its whole one can be judged or run.
use Rattle.std.proofs.Common.{ℕ, suc, ◌+◌, ◌≡◌, false, List, map, refl, sym, subst, Contains}
use Rattle.and_model.specs.Terms.{Path, Term, variables_of}
use Rattle.and_model.specs.Programs.{call, arithmetic, Arithmetic}
use Rattle.and_model.specs.Trees.{QueryTree}
use Rattle.and_model.specs.Reductions.{Reduction}
use Rattle.and_model.specs.Stands.{Framed, term_of}
use Rattle.and_model.specs.Store.{Frame, is_half}
use Rattle.and_model.specs.declared.reference.Ref.{Ref}
use Rattle.and_program.specs.Skeletons
use Rattle.and_program.specs.Skeletons.{NodeItem}
use Rattle.and_cells.specs.Ranges.{NamedProgram, pair_of}
use Rattle.and_cells.specs.Seen.{word_at}
use Rattle.and_cell_laws.proofs.Images.{contains_image}
use Rattle.and_branch_laws.specs.OwnVariables.{IsLoaded}
use Rattle.and_branch_laws.specs.Goals.{CanBeJudged}
use Rattle.and_branch_laws.specs.Kept.{item_at, node_item_at}
use Rattle.and_moved_laws.specs.Parts.{IsGoalOfPart, goal_moved, framed_moved}
use Rattle.and_moved_laws.specs.KeptParts.{PartKept}
use Rattle.and_moved_laws.proofs.KeptParts.{kept_goal}
use Rattle.and_moved_laws.proofs.PartGoals.{goal_range, goal_pair, unnamed_here}
use Rattle.and_moved_laws.proofs.Running.{first_moves, second_moves}
use Rattle.and_step_laws.specs.Runs.{IsUnnamed, HasUnnamedPair, CanBeRun}
use Rattle.and_step_laws.proofs.KeptGoals.{kept_pair_is_unnamed}

module _ (P : NamedProgram) (loaded : IsLoaded P) (rs : List Reduction) (frames : List Frame) (part : List Ref) (kept : List Framed)
    (t : QueryTree P.program) (k : PartKept P rs frames part kept t) (f : Framed) (h : Contains kept f) where
  -- its pair in the whole row is named by no word there
  unnamed_there : (i : NodeItem) → node_item_at P f.goal ≡ i → HasUnnamedPair P k.whole (goal_moved k.at f.goal) i
  unnamed_there i e =
      subst (HasUnnamedPair P k.whole (goal_moved k.at f.goal)) e
      (kept_pair_is_unnamed P loaded rs k.whole (map (framed_moved k.at) kept) t k.keeps (framed_moved k.at f)
      (contains_image (framed_moved k.at) kept f h))

  both_unnamed : (l r pair : ℕ) → node_item_at P f.goal ≡ Skeletons.is l r pair
      → IsUnnamed P part (pair_of P f.goal.clause.0 f.goal.base pair) × IsUnnamed P part (suc (pair_of P f.goal.clause.0 f.goal.base pair))
  both_unnamed l r pair e =
      let first : ℕ = pair_of P f.goal.clause.0 f.goal.base pair in
      let both = unnamed_there (Skeletons.is l r pair) e in (
        unnamed_here P k.at part k.whole k.is_part first
            (subst (IsUnnamed P k.whole) (sym (first_moves P loaded rs frames part kept t k f h l r pair e)) both.0),
        unnamed_here P k.at part k.whole k.is_part (suc first)
            (subst (IsUnnamed P k.whole) (sym (second_moves P loaded rs frames part kept t k f h l r pair e)) both.1),
      )

  unnamed_by : (i : NodeItem) → node_item_at P f.goal ≡ i → HasUnnamedPair P part f.goal i
  unnamed_by (Skeletons.call n) e = tt
  unnamed_by (Skeletons.equal n m) e = tt
  unnamed_by (Skeletons.is n m pair) e = both_unnamed n m pair e
  unnamed_by (Skeletons.compare r n m) e = tt
  unnamed_by Skeletons.fail e = tt

  -- So it is in the part.
  pub pair_is_unnamed : HasUnnamedPair P part f.goal (node_item_at P f.goal)
  pair_is_unnamed = unnamed_by (node_item_at P f.goal) refl

  whole_cells : (v : Path × ℕ) → Contains (variables_of (term_of P.program f.goal)) v → is_half (word_at part (f.goal.base + 1 + v.1)) ≡ false
  whole_cells v c =
      let own : IsGoalOfPart P k.at part f.goal = kept_goal P loaded.own rs frames part kept t k f h in
      own.whole v c

  pub can_be_judged : (term : Term) → item_at P.program f.goal ≡ call term → CanBeJudged P part f.goal
  can_be_judged term is = record { in_range = goal_range P rs frames part kept t k loaded f h; term = term; is_call = is; whole = whole_cells }

  pub can_be_run : (a : Arithmetic) → item_at P.program f.goal ≡ arithmetic a → CanBeRun P part f.goal
  can_be_run a is = record {
    in_range = goal_range P rs frames part kept t k loaded f h;
    what = a;
    is_arithmetic = is;
    whole = whole_cells;
    free = goal_pair P rs frames part kept t k loaded f h;
    unnamed = pair_is_unnamed;
  }
