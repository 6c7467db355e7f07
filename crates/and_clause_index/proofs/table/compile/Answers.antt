use Rattle.std.proofs.Common.{ℕ, ◌≡◌, ◌<◌, ◌≤◌, List, [], length, Some, sym, ap, ◌∙◌, subst, inl, inr, arith}
use Rattle.std.specs.Prelude.{slice_get}
use Rattle.std.proofs.lemmas.Bool.{cases_lt}
use Rattle.std.proofs.lemmas.List.{length-map, get_or_past}
use Rattle.std.proofs.lemmas.Option.{none-some}
use Rattle.and_program.specs.Loaded.{nodes_at, node_clause, program_of, skeleton_of}
use Rattle.and_program.specs.Nodes.{shapes_of, entry_clause}
use Rattle.and_program.specs.Skeletons.{NodeClause, call}
use Rattle.and_program.specs.declared.loaded.Loaded.{Loaded}
use Rattle.and_cells.specs.Parts.{named}
use Rattle.and_clause_index.specs.Tables.{IsMade, KnowsCalls}
use Rattle.and_clause_index.proofs.table.compile.Goals as goal

pub loop-number-init : goal.loop-number-init
loop-number-init c = record {
  made = subst (IsMade (program_of c.args.loaded.now) c.in_ok-table.table) (sym c.new-firsts.ensures.items) c.in_ok-table.ensures;
  known = λ clause low. absurd (omega arith);
}

pub loop-number-preserved : goal.loop-number-preserved
loop-number-preserved c =
    let old = c.loop-number.invariant in
    let new = c.in_ok-add_calls.ensures in
    record {
      made = new.made;
      known = λ clause low. elim (cases_lt clause c.loop-number.number) [
        | inl before ↦ λ i node e. new.stays node (old.known clause before i node e)
        | inr past ↦
            let same : clause ≡ c.loop-number.number = omega arith in
            subst (KnowsCalls (named c.args.loaded.now) c.add_calls.new.self) (sym same) new.known
      ];
    }

-- a number past all clauses has no items
none_past : (l : Loaded) (clause i node : ℕ) → length (program_of l).clauses < clause
    → slice_get (nodes_at (skeleton_of l) clause).items i ≡ Some (call node) → ⊥
none_past l clause i node past e =
    let none : NodeClause = record { head = 0; items = [] } in
    let clauses : List NodeClause = (skeleton_of l).clauses in
    let nodes = length-map l.clauses.items node_clause in
    let terms = length-map l.clauses.items (entry_clause (shapes_of l.nodes.items)) in
    let many : length clauses ≤ clause = omega arith in
    let at : nodes_at (skeleton_of l) clause ≡ none = get_or_past clauses clause none many in
    let both = sym (ap (λ (k : NodeClause). slice_get k.items i) at) ∙ e in
    none-some (call node) both

pub returns : goal.returns
returns c = record {
  calls = λ clause i node e. elim (cases_lt clause c.loop-number.number) [
    | inl before ↦ c.loop-number.invariant.known clause before i node e
    | inr past ↦ absurd (none_past c.args.loaded.now clause i node (let n = c.clause_count-number-end.ensures.count in omega arith) e)
  ];
  prints = c.loop-number.invariant.made.prints;
}
