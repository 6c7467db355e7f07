use Rattle.std.proofs.Common.{◌+◌, length}
use Rattle.and_program.specs.Nodes.{shapes_of}
use Rattle.and_judging.specs.Sorts.{outlines_in}
use Rattle.and_judging.specs.Outlined.{outlines_size}
use Rattle.and_clauses.specs.Lifts.{names_under, nodes_under, named_under}
use Rattle.and_clauses.proofs.LiftClauses.{AreLiftedSoFar}
use Rattle.and_clauses.proofs.lifting.alternatives.Given as goal

abbrev pub invariant-loop-outline : goal.invariant-loop-outline
invariant-loop-outline l = record {
  lifted : let ss = nodes_under l.lifting in
      let ds = named_under l.lifting in
      let old = shapes_of l.initial.nodes.items in
      AreLiftedSoFar ss ds (length (names_under l.lifting)) old (shapes_of l.nodes.items)
      (length old + outlines_size ds (outlines_in ss l.outlines)) l.written l.line l.outlines l.outline-index l.entries.items;
}
