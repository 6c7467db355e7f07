-- What is known of the goals of a branch whose row is part of its whole one.
use Rattle.std.proofs.Common.{ℕ, ◌+◌, ◌≡◌, ◌≤◌, false, List, [], ◌∷◌, ◌++◌, length, map, refl, sym, ap, ◌∙◌, subst, inl, inr, arith}
use Rattle.std.proofs.Common.{Contains}
use Rattle.std.proofs.lemmas.List.Elements.{All-contains}
use Rattle.and_model.specs.Terms.{Path, variables_of}
use Rattle.and_model.specs.Closure.{Ran}
use Rattle.and_model.specs.Trees.{QueryTree, weight, Open, path, call_of, equations, arithmetics}
use Rattle.and_model.specs.Reductions.{Reduction, Makes}
use Rattle.and_model.specs.Stands.{Framed, IsFramed, call_in_tree, calls_left, in_tree}
use Rattle.and_model.specs.Store.{Frame, is_half}
use Rattle.and_model.specs.declared.reference.Ref.{Ref}
use Rattle.and_model.specs.declared.reference.Ref.TheVariants.{Free, Cell, Node, Number, Half}
use Rattle.and_program.specs.Skeletons.{node_term}
use Rattle.and_laws.proofs.Ordered.{contains_first, contains_cases, contains_none}
use Rattle.and_cells.specs.Ranges.{NamedProgram, IsGoalInRange}
use Rattle.and_cells.specs.Rows.{IsSound}
use Rattle.and_cells.specs.Seen.{IsSetTo}
use Rattle.and_cells.specs.Meaning.{IsSettled, shallow_cells}
use Rattle.and_cell_laws.proofs.Images.{contains_image, contains_origin}
use Rattle.and_branch_laws.specs.OwnVariables.{OwnVariables, IsLoaded}
use Rattle.and_branch_laws.specs.Tasks.{Task, tasks, calls_among, arithmetic_among}
use Rattle.and_branch_laws.specs.Kept.{task_of, node_item_at, HasFreePair, IsCall, calls_kept}
use Rattle.and_branch_laws.proofs.Clauses.{as_many, goal_clause_there, goal_in_range}
use Rattle.and_branch_laws.proofs.Keeping
use Rattle.and_branch_laws.proofs.Nodes.{item_there}
use Rattle.and_branch_laws.proofs.Pairs.{has_free_pair}
use Rattle.and_branch_laws.proofs.Reading.{calls_are}
use Rattle.and_branch_laws.proofs.Tasks.{ran_calls, tasks_calls, tree_ran}
use Rattle.and_moved_laws.specs.Parts.{moved, IsTogether, IsPartOf, goal_moved, framed_moved}
use Rattle.and_moved_laws.specs.KeptFrames.{frame_of_goal}
use Rattle.and_moved_laws.specs.KeptParts.{PartKept}
use Rattle.and_moved_laws.proofs.MovedGoals.{tasks_same, call_there}
use Rattle.and_moved_laws.proofs.Moving.{moved_free, moved_half, no_longer}
use Rattle.and_moved_laws.proofs.Running.{pair_is_free}
use Rattle.and_moved_laws.proofs.Standing.{sound_part, settled_part}
use Rattle.and_moved_laws.proofs.Tiling.{fill_fits}

module _ (P : NamedProgram) (rs : List Reduction) (frames : List Frame) (part : List Ref) (kept : List Framed) (tree : QueryTree P.program)
    (k : PartKept P rs frames part kept tree) where
  abbrev M : List Framed
  M = map (framed_moved k.at) kept

  -- ---- They are the tree's

  pub tree_made : Makes P.program rs tree
  tree_made = let w = k.keeps in w.made

  pub goal_placed : (f : Framed) → Contains kept f → IsFramed rs f
  goal_placed f h =
      let w = k.keeps in
      All-contains (IsFramed rs) M (framed_moved k.at f) w.framed (contains_image (framed_moved k.at) kept f h)

  same_tasks : map (task_of P.program) (map (framed_moved k.at) kept) ≡ map (task_of P.program) kept
  same_tasks = tasks_same P.program k.at kept

  -- The kept calls are its open goals,
  pub calls_of_tree : map (call_in_tree P.program) (calls_kept P.program kept) ≡ calls_left tree
  calls_of_tree =
      let w = k.keeps in
      calls_are P.program kept ∙ ap calls_among (sym same_tasks)
      ∙ ran_calls (equations tree) (tasks tree) w.solved (map (task_of P.program) M) w.ran ∙ tasks_calls tree

  -- and the kept arithmetic is what was not run.
  pub arithmetic_of_tree : Ran (equations tree) (arithmetics tree) k.keeps.solved (arithmetic_among (map (task_of P.program) kept))
  arithmetic_of_tree =
      let w = k.keeps in
      subst (λ (l : List Task). Ran (equations tree) (arithmetics tree) w.solved (arithmetic_among l)) same_tasks
      (tree_ran tree w.solved (map (task_of P.program) M) w.ran)

  pub open_of_tree : OwnVariables P → (f : Framed) → Contains kept f → IsCall P.program f
      → (o : Open tree) × (path tree o ≡ f.frame ++ f.goal.item ∷ []) × (call_of tree o ≡ in_tree P.program f)
  open_of_tree own f h called =
      Keeping.kept_open P own rs k.whole M tree k.keeps (framed_moved k.at f) (contains_image (framed_moved k.at) kept f h)
      (call_there P.program k.at f called)

  -- ---- The row

  pub row_sound : IsSound P part
  row_sound = let w = k.keeps in sound_part P k.at part k.whole k.is_part w.sound

  pub part_settled : IsSettled P part
  part_settled = let w = k.keeps in settled_part P k.at part k.whole k.is_part w.sound w.settled

  -- It has no more words than the tree weighs.
  pub part_fits : length part ≤ weight tree
  part_fits = let w = k.keeps in let e = w.long in let l = no_longer P k.at part k.whole k.is_part in omega arith

  -- ---- A goal in it

  module _ (loaded : IsLoaded P) (f : Framed) (h : Contains kept f) where
    whole_range : IsGoalInRange P (length k.whole) (goal_moved k.at f.goal)
    whole_range =
        let w = k.keeps in
        All-contains (λ (g : Framed). IsGoalInRange P (length k.whole) g.goal) M (framed_moved k.at f) w.in_range
        (contains_image (framed_moved k.at) kept f h)

    pub goal_range : IsGoalInRange P (length part) f.goal
    goal_range =
        let g = goal_moved k.at f.goal in
        let c : ℕ = f.goal.clause.0 in
        let there = goal_clause_there P loaded (length k.whole) g whole_range in
        let many = as_many P loaded c there in
        let low = item_there P loaded (length k.whole) g whole_range in
        let sound : IsSound P part = row_sound in
        goal_in_range P loaded c there (length part) f.goal.base
        (fill_fits 0 frames (length part) k.fill (frame_of_goal P f.goal) (k.framed f h)) (let s = sound.short in omega arith) f.goal refl refl
        (omega arith)

    pub goal_pair : HasFreePair P part f.goal (node_item_at P f.goal)
    goal_pair =
        has_free_pair P part f.goal (node_item_at P f.goal) (λ l r number e. pair_is_free P loaded rs frames part kept tree k f h l r number e)

-- ---- What words name

-- Where no set word of the whole row names the place as a cell, none of the part does.
module _ (P : NamedProgram) (at : ℕ → ℕ) (part whole : List Ref) (m : IsPartOf P at part whole) (place : ℕ) where
  named_there : (r : Ref) → IsTogether P at r → Contains (shallow_cells P r) place → Contains (shallow_cells P (moved at r)) (at place)
  named_there Free near c = absurd (contains_none place c)
  named_there (Cell cell) near c = elim (contains_cases cell place [] c) [
    | inl e ↦ subst (λ (x : ℕ). Contains (at cell ∷ []) (at x)) (sym e) (contains_first (at cell) [])
    | inr i ↦ absurd (contains_none place i)
  ]
  named_there (Node node base) near c =
      let vs : List (Path × ℕ) = variables_of (node_term P.skeleton.nodes node.0) in
      let (v, i, is) = contains_origin (λ (v : Path × ℕ). base + 1 + v.1) vs place c in
      subst (λ (x : ℕ). Contains (map (λ (v : Path × ℕ). at base + 1 + v.1) vs) x) (sym (ap at is ∙ near v i))
      (contains_image (λ (v : Path × ℕ). at base + 1 + v.1) vs v i)
  named_there (Number pair) near c = absurd (contains_none place c)
  named_there (Half bits) near c = absurd (contains_none place c)

  pub unnamed_here : ((by : ℕ) (r : Ref) → IsSetTo whole by r → is_half r ≡ false → Contains (shallow_cells P r) (at place) → ⊥)
      → (by : ℕ) (r : Ref) → IsSetTo part by r → is_half r ≡ false → Contains (shallow_cells P r) place → ⊥
  unnamed_here none_there by r set no_half c =
      none_there (at by) (moved at r) (m.words by ∙ ap (moved at) set.0, λ e. set.1 (moved_free at r e)) (moved_half at r ∙ no_half)
      (named_there r (subst (λ (x : Ref). IsTogether P at x) set.0 (m.together by)) c)
