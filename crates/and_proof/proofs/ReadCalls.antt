-- Calls and nodes that are read in the row, to be written.
use Rattle.std.proofs.Common.{ℕ, ◌≡◌, ◌≤◌, List, length, Some, ap, sym, ◌∙◌, subst, Contains}
use Rattle.std.specs.Prelude.{slice_get}
use Rattle.and_model.specs.Terms.{Term, variables_of, apply}
use Rattle.and_model.specs.declared.numbers.NodeNo.{NodeNo}
use Rattle.and_model.specs.declared.reference.Ref.{Ref}
use Rattle.and_program.specs.Loaded.{program_of, skeleton_of, nodes_at, shape_at}
use Rattle.and_program.specs.Shown.{resolved}
use Rattle.and_program.specs.Skeletons
use Rattle.and_program.specs.declared.loaded.Loaded.{Loaded}
use Rattle.and_cells.specs.Parts.{named}
use Rattle.and_cells.specs.Ranges.{IsNodeInRange}
use Rattle.and_branch_laws.specs.OwnVariables.{IsLoaded}
use Rattle.and_branch_laws.proofs.Clauses.{goal_clause_there}
use Rattle.and_print.specs.Goals.{NodeMeans}
use Rattle.and_print.specs.Roots.{Means}
use Rattle.and_print.proofs.Parting.{node_resolved}
use Rattle.and_proof.specs.Proofs.{Replaced}
use Rattle.and_proof.specs.Written.{IsCallRead}
use Rattle.and_proof.specs.declared.goals.Taken.{Taken}
use Rattle.and_branch_laws.proofs.Nodes.{call_node, call_term, call_range}

module _ (l : Loaded) (loaded : IsLoaded (named l)) (row : List Ref) (e : Taken) (r : Replaced) (x : IsCallRead (named l) row e r) where
  pub clause_there : e.call.clause.0 ≤ length (program_of l).clauses
  clause_there = let m = x.means in goal_clause_there (named l) loaded (length row) e.call m.in_range

  pub node_there : (n : ℕ) × (slice_get (nodes_at (skeleton_of l) e.call.clause.0).items e.call.item ≡ Some (Skeletons.call n))
  node_there = let m = x.means in call_node (named l) loaded (length row) e.call m.in_range x.term x.is_call

  module _ (node : NodeNo) (there : slice_get (nodes_at (skeleton_of l) e.call.clause.0).items e.call.item ≡ Some (Skeletons.call node.0)) where
    pub node_range : IsNodeInRange (named l) (length row) node.0 e.call.base
    node_range = let m = x.means in call_range (named l) loaded (length row) e.call m.in_range x.term x.is_call node.0 there

    -- The reference that is found for the node stands for the call.
    pub read_means : (found : Ref) → found ≡ resolved (shape_at (skeleton_of l) node.0) node e.call.base → Means (named l) row found r.call
    read_means found is =
        let m = x.means in
        let same = call_term (named l) loaded (length row) e.call m.in_range x.term x.is_call node.0 there in
        let node_means : NodeMeans (named l) row node.0 e.call.base m.values = record {
          in_range = node_range;
          cells = λ v c. m.cells v (subst (λ (t : Term). Contains (variables_of t) v) (sym same) c);
        } in
        subst (λ (t : Term). Means (named l) row found t) (sym (m.term ∙ ap (apply m.values) same))
        (node_resolved (named l) row node e.call.base m.values node_means found is)
