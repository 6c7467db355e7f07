-- Items of goals whose frames lie among the words.
use Rattle.std.proofs.Common.{ℕ, ◌+◌, ◌≡◌, ◌<◌, ◌≤◌, List, length, map, get_or, refl, sym, ap, ◌∙◌, arith}
use Rattle.std.proofs.lemmas.List.{length-map}
use Rattle.std.proofs.lemmas.Option.{get_or_from_slice_get, slice_get-get_or, slice_get-map}
use Rattle.std.specs.Option.{option_map}
use Rattle.and_model.specs.Programs.{clause_at, clause_weight}
use Rattle.and_model.specs.declared.goal.Goal.{Goal}
use Rattle.and_model.specs.declared.limits.TheConstants.{MAX_LIMIT}
use Rattle.and_program.specs.Items.{node_item}
use Rattle.and_program.specs.Skeletons
use Rattle.and_program.specs.Skeletons.{NodeItem}
use Rattle.and_program.specs.Loaded.{nodes_at}
use Rattle.and_program.specs.declared.item.ItemNode.{ItemNode}
use Rattle.and_cells.specs.Ranges.{NamedProgram, IsGoalInRange}
use Rattle.and_branch_laws.specs.Kept.{node_item_at}
use Rattle.and_branch_laws.specs.OwnVariables.{IsLoaded}
use Rattle.and_branch_laws.proofs.Clauses.{goal_in_range, as_many}

module _ (P : NamedProgram) (g : Goal) (xs : List ItemNode) (are : map node_item xs ≡ (nodes_at P.skeleton g.clause.0).items)
    (within : g.item < length xs) where
  pub item_is : (d : ItemNode) → node_item_at P g ≡ node_item (get_or xs g.item d)
  item_is d =
      let found = slice_get-map node_item xs g.item ∙ ap (option_map node_item) (slice_get-get_or xs g.item d within) in
      ap (λ (items : List NodeItem). get_or items g.item Skeletons.fail) (sym are)
      ∙ get_or_from_slice_get (map node_item xs) g.item (node_item (get_or xs g.item d)) Skeletons.fail found

  pub in_range : IsLoaded P → g.clause.0 ≤ length P.program.clauses → (words : ℕ) → g.base + clause_weight (clause_at P.program g.clause.0) ≤ words
      → words ≤ MAX_LIMIT → IsGoalInRange P words g
  in_range loaded there words room short =
      let many = as_many P loaded g.clause.0 there in
      let long = sym (length-map xs node_item) ∙ ap length are in
      goal_in_range P loaded g.clause.0 there words g.base room (omega arith) g refl refl (omega (arith, within, many, long))
