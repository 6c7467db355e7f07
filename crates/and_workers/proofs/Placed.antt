-- Items of goals whose frames lie among the words.
use Rattle.std.proofs.Common.{ℕ, ◌+◌, ◌≡◌, ◌<◌, ◌≤◌, List, length, get_or, Some, refl, sym, ap, ◌∙◌, subst, arith, rules, tests}
use Rattle.std.specs.Borrow.{Bor}
use Rattle.std.specs.Prelude.{slice_get, IfSome, Option, None, nat_lt, option_copied}
use Rattle.std.specs.Option.{is_some}
use Rattle.std.proofs.lemmas.Option.{get_or_from_slice_get, slice_get_within, slice_get-get_or}
use Rattle.and_model.specs.Programs.{clause_at, clause_weight}
use Rattle.and_model.specs.declared.goal.Goal.{Goal}
use Rattle.and_model.specs.declared.limits.TheConstants.{MAX_LIMIT}
use Rattle.and_program.specs.Skeletons
use Rattle.and_program.specs.Skeletons.{NodeItem, item_of}
use Rattle.and_program.specs.Loaded.{nodes_at}
use Rattle.and_cells.specs.Ranges.{NamedProgram, IsItemInRange}
use Rattle.and_branch_laws.specs.OwnVariables.{IsLoaded}
use Rattle.and_branch_laws.proofs.Clauses.{item_of_nodes, item_in_range, goal_in_range, as_many}
use Rattle.and_workers.specs.Items.{IsItemOver}

module _ (P : NamedProgram) (loaded : IsLoaded P) (words : ℕ) (g : Goal) (there : g.clause.0 ≤ length P.program.clauses)
    (room : g.base + clause_weight (clause_at P.program g.clause.0) ≤ words) (short : words ≤ MAX_LIMIT) where
  pub is_item_over : (item : NodeItem) → slice_get (nodes_at P.skeleton g.clause.0).items g.item ≡ Some item → IsItemOver P words g item
  is_item_over item at =
      let items : List NodeItem = (nodes_at P.skeleton g.clause.0).items in
      let is : get_or items g.item Skeletons.fail ≡ item = get_or_from_slice_get items g.item item Skeletons.fail at in
      let low : g.item < length items = slice_get_within items g.item item at in
      let many = as_many P loaded g.clause.0 there in
      record {
        there = at;
        is_item = sym (item_of_nodes P loaded g.clause.0 there g.item ∙ ap (item_of P.skeleton.nodes) is);
        item_in_range = subst (IsItemInRange P words g.clause.0 g.base) is
            (item_in_range P loaded g.clause.0 there words g.base room (omega arith) g.item);
        in_range = goal_in_range P loaded g.clause.0 there words g.base room (omega arith) g refl refl (omega arith);
      }

-- the element at an index, where it was found and copied
pub copied_is : {X : Type 0} (xs : List X) (i : ℕ) (found : Option (Bor X)) (copied : Option X) → is_some found ≡ nat_lt i (length xs)
    → IfSome found (λ x. x.now ≡ get_or xs i x.now) → copied ≡ option_copied found → (Q : X → Type 0)
    → ((x : X) → slice_get xs i ≡ Some x → Q x) → IfSome copied Q
copied_is xs i None copied low is same Q h = subst (λ o. IfSome o Q) (sym same) tt
copied_is xs i (Some x) copied low is same Q h =
    let within : i < length xs = search (rules, tests) in
    subst (λ o. IfSome o Q) (sym same) (h x.now (slice_get-get_or xs i x.now within ∙ ap Some (sym is)))
