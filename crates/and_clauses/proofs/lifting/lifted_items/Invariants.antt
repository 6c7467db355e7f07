use Rattle.std.proofs.Common.{◌+◌, length, map}
use Rattle.and_program.specs.Nodes.{shapes_of}
use Rattle.and_judging.specs.Sorts.{piece_in}
use Rattle.and_judging.specs.Outlined.{pieces_size}
use Rattle.and_clauses.specs.Copies.{numbering_at}
use Rattle.and_clauses.specs.Lifts.{names_under, nodes_under, named_under}
use Rattle.and_clauses.proofs.LiftSteps.{AreSoFar}
use Rattle.and_clauses.proofs.lifting.lifted_items.Given as goal

abbrev pub invariant-loop-piece : goal.invariant-loop-piece
invariant-loop-piece l = record {
  lifted : let ss = nodes_under l.lifting in
      let ds = named_under l.lifting in
      let old = shapes_of l.initial.nodes.items in
      AreSoFar ss ds (numbering_at l.scope) (length (names_under l.lifting)) old (shapes_of l.nodes.items)
      (length old + pieces_size ds (map (piece_in ss) l.pieces)) l.pieces l.piece-index l.items.items l.pairs;
}
