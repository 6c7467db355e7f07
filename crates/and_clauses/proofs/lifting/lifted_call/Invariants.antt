use Rattle.std.proofs.Common.{◌+◌, suc, [], length, map, take}
use Rattle.and_program.specs.Nodes.{shapes_of}
use Rattle.and_clauses.specs.Copies.{numbering_at, numbers_in}
use Rattle.and_clauses.specs.Lifts.{names_under}
use Rattle.and_clauses.proofs.Placing.{IsRow}
use Rattle.and_clauses.proofs.lifting.lifted_call.Given as goal

abbrev pub invariant-loop-variable : goal.invariant-loop-variable
invariant-loop-variable l = record {
  row : let old = shapes_of l.initial.nodes.items in
      IsRow (length (names_under l.lifting)) old (shapes_of l.nodes.items) (length old + suc (length l.variables)) (numbers_in l.arguments.items)
      (map (numbering_at l.scope []) (take l.variable-index l.variables));
}
