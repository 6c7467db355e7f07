use Rattle.std.proofs.Common.{◌+◌, length, reverse}
use Rattle.and_source.specs.Lifted.{renumbered}
use Rattle.and_program.specs.Skeletons.{node_term}
use Rattle.and_program.specs.Nodes.{shapes_of}
use Rattle.and_judging.specs.Outlined.{size_of}
use Rattle.and_clauses.specs.Copied.{tasks_work}
use Rattle.and_clauses.specs.Copies.{numbering_at, numbers_in, tasks_in}
use Rattle.and_clauses.specs.Lifts.{names_under, nodes_under}
use Rattle.and_clauses.proofs.CopySteps.{IsCopying}
use Rattle.and_clauses.proofs.lifting.copied.Given as goal

abbrev pub invariant-loop-next : goal.invariant-loop-next
invariant-loop-next l = record {
  copying : let ss = nodes_under l.lifting in
      let old = shapes_of l.initial.nodes.items in
      IsCopying ss (numbering_at l.scope) (length l.lifting.parts.now) (length (names_under l.lifting)) old (shapes_of l.nodes.items)
      (length old + size_of (node_term ss l.root)) (numbers_in l.lists.finished.items) (tasks_in (reverse l.lists.pending.items))
      (renumbered (numbering_at l.scope) (node_term ss l.root));
}

abbrev pub decreases-loop-next : goal.decreases-loop-next
decreases-loop-next l = tasks_work (nodes_under l.lifting) (tasks_in (reverse l.lists.pending.items))
