use Rattle.std.proofs.Common.{◌≡◌, ◌++◌, drop}
use Rattle.and_cells.specs.Seen.{word_at}
use Rattle.and_unify.specs.Pairs.{equations_of_pairs}
use Rattle.and_unify.specs.Places.{sides}
use Rattle.and_reduction.specs.Writes.{AskNodes}
use Rattle.and_branch_laws.specs.Reducing.{body_equations}
use Rattle.and_branch_laws.specs.Variables.{placed}
use Rattle.and_step_laws.specs.Asking.{AreReady}
use Rattle.and_step_laws.proofs.AskedPairs.{body_of}
use Rattle.and_reduction.proofs.asking.ask_items.Given as goal

abbrev pub invariant-loop-item : goal.invariant-loop-item
invariant-loop-item g l = record {
  nodes : AskNodes g.N.Naming.program l.floor (sides l.fn.pairs) l.pairs;
  ready : AreReady g.N.Naming.program l.cells l.floor l.pairs;
  asks : equations_of_pairs g.N.Naming.program (word_at l.cells) l.pairs
      ++ body_equations (placed l.floor) (body_of g.N.Naming.program.skeleton.nodes (drop l.item-index l.items))
      ≡ equations_of_pairs g.N.Naming.program (word_at l.cells) l.fn.pairs
      ++ body_equations (placed l.floor) (body_of g.N.Naming.program.skeleton.nodes l.items);
}
