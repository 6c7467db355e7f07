-- Goals by the items that they are.
use Rattle.std.proofs.Common.{ℕ, ◌≡◌, ◌⊎◌, true, false, List, Some, refl, sym, ap, ◌∙◌, inl, inr}
use Rattle.std.specs.Prelude.{slice_get}
use Rattle.std.proofs.lemmas.Bool.{true≢false}
use Rattle.std.proofs.lemmas.Option.{slice_get-get_or}
use Rattle.and_model.specs.Terms.{Term}
use Rattle.and_model.specs.Programs
use Rattle.and_model.specs.Programs.{Arithmetic}
use Rattle.and_model.specs.declared.goal.Goal.{Goal}
use Rattle.and_program.specs.Items.{is_call_node}
use Rattle.and_program.specs.Loaded.{nodes_at}
use Rattle.and_program.specs.Skeletons
use Rattle.and_program.specs.Skeletons.{NodeItem, Shape, node_term, item_of}
use Rattle.and_cells.specs.Ranges.{NamedProgram, IsGoalInRange}
use Rattle.and_branch_laws.specs.Kept.{item_at, node_item_at}
use Rattle.and_branch_laws.specs.OwnVariables.{IsLoaded}
use Rattle.and_branch_laws.proofs.Nodes.{item_here, item_there}

-- an item that is a call by its nodes has a node
call_of_item : (i : NodeItem) → is_call_node i ≡ true → (n : ℕ) × (i ≡ Skeletons.call n)
call_of_item (Skeletons.call n) e = (n, refl)
call_of_item (Skeletons.equal n m) e = absurd (true≢false (sym e))
call_of_item (Skeletons.is n m pair) e = absurd (true≢false (sym e))
call_of_item (Skeletons.compare o n m) e = absurd (true≢false (sym e))
call_of_item Skeletons.fail e = absurd (true≢false (sym e))

-- an item that is a call as the program has it is one by its nodes
item_of_call : (ss : List Shape) (i : NodeItem) (t : Term) → item_of ss i ≡ Programs.call t → is_call_node i ≡ true
item_of_call ss (Skeletons.call n) t e = refl
item_of_call ss (Skeletons.equal n m) t e = absurd (cc)
item_of_call ss (Skeletons.is n m pair) t e = absurd (cc)
item_of_call ss (Skeletons.compare o n m) t e = absurd (cc)
item_of_call ss Skeletons.fail t e = absurd (cc)

module _ (P : NamedProgram) (loaded : IsLoaded P) (words : ℕ) (g : Goal) (in_range : IsGoalInRange P words g) (i : NodeItem)
    (item_is : node_item_at P g ≡ i) where
  here : item_at P.program g ≡ item_of P.skeleton.nodes i
  here = item_here P loaded words g in_range ∙ ap (item_of P.skeleton.nodes) item_is

  pub is_a_call : is_call_node i ≡ true → (term : Term) × (item_at P.program g ≡ Programs.call term)
  is_a_call e =
      let (n, is) = call_of_item i e in
      (node_term P.skeleton.nodes n, here ∙ ap (item_of P.skeleton.nodes) is)

  pub is_arithmetic_then : is_call_node i ≡ false
      → ((term : Term) × (item_at P.program g ≡ Programs.call term)) ⊎ ((a : Arithmetic) × (item_at P.program g ≡ Programs.arithmetic a))
      → (a : Arithmetic) × (item_at P.program g ≡ Programs.arithmetic a)
  is_arithmetic_then other (inl (term, e)) =
      absurd (true≢false (sym (item_of_call P.skeleton.nodes i term (sym here ∙ e)) ∙ other))
  is_arithmetic_then other (inr found) = found

  -- and the node of a call stands there in the body
  pub node_there : (n : ℕ) → i ≡ Skeletons.call n → slice_get (nodes_at P.skeleton g.clause.0).items g.item ≡ Some (Skeletons.call n)
  node_there n e =
      slice_get-get_or (nodes_at P.skeleton g.clause.0).items g.item Skeletons.fail (item_there P loaded words g in_range)
      ∙ ap (λ (x : NodeItem). Some x) (item_is ∙ e)
