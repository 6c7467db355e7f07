use Rattle.std.proofs.Common.{◌+◌, suc, length}
use Rattle.and_source.specs.Source.{numbers_from}
use Rattle.and_program.specs.Nodes.{shapes_of}
use Rattle.and_clauses.specs.Copies.{numbers_in}
use Rattle.and_clauses.specs.Lifts.{names_under}
use Rattle.and_clauses.proofs.Placing.{IsRow}
use Rattle.and_clauses.proofs.lifting.lifted_head.Given as goal

abbrev pub invariant-loop-number : goal.invariant-loop-number
invariant-loop-number l = record {
  row : let old = shapes_of l.initial.nodes.items in
      IsRow (length (names_under l.lifting)) old (shapes_of l.nodes.items) (length old + suc l.count) (numbers_in l.arguments.items)
      (numbers_from 0 l.number);
}
