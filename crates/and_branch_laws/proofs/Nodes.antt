-- The nodes of goals that are in range, and of calls.
use Rattle.std.proofs.Common.{ℕ, ◌+◌, ◌≡◌, ◌<◌, ◌≤◌, List, [], length, get_or, Some, refl, sym, ap, ◌∙◌, subst}
use Rattle.std.specs.Prelude.{Contains, slice_get}
use Rattle.std.proofs.lemmas.Option.{get_or_from_slice_get, slice_get_within}
use Rattle.std.proofs.lemmas.List.Elements.{All-contains}
use Rattle.and_model.specs.Terms.{Path, Term, variables_of}
use Rattle.and_model.specs.Programs
use Rattle.and_model.specs.Stands.{item_term, term_of}
use Rattle.and_model.specs.declared.goal.Goal.{Goal}
use Rattle.and_model.specs.declared.reference.Ref.{Ref}
use Rattle.and_program.specs.Skeletons
use Rattle.and_program.specs.Skeletons.{NodeItem, NodeClause, Shape, node_term, item_of}
use Rattle.and_program.specs.Items.{node_item}
use Rattle.and_program.specs.Loaded.{nodes_at, program_of, skeleton_of}
use Rattle.and_program.specs.declared.item.ItemNode.{ItemNode}
use Rattle.and_program.specs.declared.loaded.Loaded.{Loaded}
use Rattle.and_cells.specs.Parts.{named}
use Rattle.and_cells.specs.Ranges.{NamedProgram, IsNodeInRange, IsItemInRange, IsGoalInRange}
use Rattle.and_model.specs.OwnVariables.{HaveOwnVariables}
use Rattle.and_model.specs.declared.limits.TheConstants.{MAX_NODES}
use Rattle.and_program.specs.Skeletons.{IsSkeleton}
use Rattle.and_branch_laws.proofs.Loading.{loaded_is}
use Rattle.and_branch_laws.specs.OwnVariables.{IsLoaded}
use Rattle.and_branch_laws.specs.Kept.{item_at, node_item_at}
use Rattle.and_branch_laws.proofs.Clauses.{item_of_nodes, goal_clause_there}
use Rattle.and_branch_laws.specs.Goals.{CanBeJudged, IsNodeOf}

-- the item that was found of a goal
pub node_found : (P : NamedProgram) (l : Loaded) (g : Goal) (i j : ItemNode) → P ≡ named l
    → node_item i ≡ get_or (nodes_at (skeleton_of l) g.clause.0).items g.item Skeletons.fail → i ≡ j → node_item_at P g ≡ node_item j
node_found P l g i j same e is =
    subst (λ (Q : NamedProgram). node_item_at Q g ≡ node_item i) (sym same) (sym e) ∙ ap node_item is

-- ---- A goal that is in range

module _ (P : NamedProgram) (loaded : IsLoaded P) (words : ℕ) (g : Goal) (in_range : IsGoalInRange P words g) where
  clause_there : g.clause.0 ≤ length P.program.clauses
  clause_there = goal_clause_there P loaded words g in_range

  nodes_are : nodes_at P.skeleton g.clause.0 ≡ in_range.clause
  nodes_are = get_or_from_slice_get P.skeleton.clauses g.clause.0 in_range.clause (record { head = 0; items = [] }) in_range.clause_is

  item_is : slice_get (nodes_at P.skeleton g.clause.0).items g.item ≡ Some in_range.item
  item_is = ap (λ (k : NodeClause). slice_get k.items g.item) nodes_are ∙ in_range.item_is

  pub item_there : g.item < length (nodes_at P.skeleton g.clause.0).items
  item_there = slice_get_within (nodes_at P.skeleton g.clause.0).items g.item in_range.item item_is

  -- the item is that of its nodes, which are in range
  node_item_is : node_item_at P g ≡ in_range.item
  node_item_is = get_or_from_slice_get (nodes_at P.skeleton g.clause.0).items g.item in_range.item Skeletons.fail item_is

  pub item_here : item_at P.program g ≡ item_of P.skeleton.nodes (node_item_at P g)
  item_here = item_of_nodes P loaded g.clause.0 clause_there g.item

  pub item_ranges : IsItemInRange P words g.clause.0 g.base (node_item_at P g)
  item_ranges = subst (λ (i : NodeItem). IsItemInRange P words g.clause.0 g.base i) (sym node_item_is) in_range.item_in_range

-- ---- A call

-- an item that is a call as the program has it is one by its nodes
call_by_nodes : (ss : List Shape) (i : NodeItem) (t : Term) → item_of ss i ≡ Programs.call t → (n : ℕ) × (i ≡ Skeletons.call n)
call_by_nodes ss (Skeletons.call n) t e = (n, refl)
call_by_nodes ss (Skeletons.equal n m) t e = absurd (cc)
call_by_nodes ss (Skeletons.is n m pair) t e = absurd (cc)
call_by_nodes ss (Skeletons.compare o n m) t e = absurd (cc)
call_by_nodes ss Skeletons.fail t e = absurd (cc)

module _ (P : NamedProgram) (loaded : IsLoaded P) (words : ℕ) (g : Goal) (in_range : IsGoalInRange P words g) (t : Term)
    (is_call : item_at P.program g ≡ Programs.call t) where
  pub call_node : (n : ℕ) × (slice_get (nodes_at P.skeleton g.clause.0).items g.item ≡ Some (Skeletons.call n))
  call_node =
      let found = call_by_nodes P.skeleton.nodes (node_item_at P g) t (sym (item_here P loaded words g in_range) ∙ is_call) in (
        found.0,
        item_is P loaded words g in_range ∙ ap (λ (i : NodeItem). Some i) (sym (node_item_is P loaded words g in_range) ∙ found.1),
      )

  module _ (n : ℕ) (there : slice_get (nodes_at P.skeleton g.clause.0).items g.item ≡ Some (Skeletons.call n)) where
    call_is : node_item_at P g ≡ Skeletons.call n
    call_is = get_or_from_slice_get (nodes_at P.skeleton g.clause.0).items g.item (Skeletons.call n) Skeletons.fail there

    pub call_term : term_of P.program g ≡ node_term P.skeleton.nodes n
    call_term = ap item_term (item_here P loaded words g in_range ∙ ap (item_of P.skeleton.nodes) call_is)

    pub call_range : IsNodeInRange P words n g.base
    call_range = subst (λ (i : NodeItem). IsItemInRange P words g.clause.0 g.base i) call_is (item_ranges P loaded words g in_range)

module _ (P : NamedProgram) (loaded : IsLoaded P) (row : List Ref) (g : Goal) (can : CanBeJudged P row g) where
  pub clause_is_there : g.clause.0 ≤ length P.program.clauses
  clause_is_there = goal_clause_there P loaded (length row) g can.in_range

  pub has_node : (n : ℕ) × (slice_get (nodes_at P.skeleton g.clause.0).items g.item ≡ Some (Skeletons.call n))
  has_node = call_node P loaded (length row) g can.in_range can.term can.is_call

  pub node_is : (n : ℕ) → slice_get (nodes_at P.skeleton g.clause.0).items g.item ≡ Some (Skeletons.call n) → IsNodeOf P row g n
  node_is n there =
      let term = call_term P loaded (length row) g can.in_range can.term can.is_call n there in
      record {
        there = there;
        term = term;
        reads = record {
          in_range = call_range P loaded (length row) g can.in_range can.term can.is_call n there;
          whole = λ v c. can.whole v (subst (λ (t : Term). Contains (variables_of t) v) (sym term) c);
        };
      }

  -- Its cells are of the row.
  pub call_cells : (v : Path × ℕ) → Contains (variables_of (term_of P.program g)) v → g.base + 1 + v.1 < length row
  call_cells v c =
      let found = has_node in
      let node = node_is found.0 found.1 in
      let t : Term = node_term P.skeleton.nodes found.0 in
      All-contains (λ (v : Path × ℕ). g.base + 1 + v.1 < length row) (variables_of t) v node.reads.in_range.cells
      (subst (λ (x : Term). Contains (variables_of x) v) node.term c)

-- The node that is found there of a call is the call's.
pub found_node : (P : NamedProgram) (l : Loaded) (row : List Ref) (g : Goal) (n : ℕ) → P ≡ named l → IsSkeleton (skeleton_of l) (program_of l)
    → HaveOwnVariables (program_of l) → length (skeleton_of l).nodes ≤ MAX_NODES + 1 → CanBeJudged P row g
    → slice_get (nodes_at (skeleton_of l) g.clause.0).items g.item ≡ Some (Skeletons.call n) → IsNodeOf P row g n
found_node P l row g n same skeleton own few can there =
    node_is P (loaded_is P l same skeleton own few) row g can n
    (subst (λ (Q : NamedProgram). slice_get (nodes_at Q.skeleton g.clause.0).items g.item ≡ Some (Skeletons.call n)) (sym same) there)
