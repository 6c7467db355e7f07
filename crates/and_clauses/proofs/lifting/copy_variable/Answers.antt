use Rattle.std.proofs.Common.{subst}
use Rattle.and_program.specs.Nodes.{shapes_of}
use Rattle.and_program.specs.Skeletons
use Rattle.and_clauses.specs.Copies.{IsPut}
use Rattle.and_clauses.proofs.LiftClauses.{pushed_number}
use Rattle.and_clauses.proofs.lifting.copy_variable.Goals as goal

pub returns-clause-copied : goal.returns-clause-copied
returns-clause-copied c = record {
  node = c.in_ok-node.node.0;
  put = subst (λ k. IsPut (shapes_of c.args.nodes.now.items) (shapes_of c.variable_node.new.nodes.items) (Skeletons.variable k) c.in_ok-node.node.0)
      c.number_in-number.ensures c.in_ok-node.ensures.put;
  last = pushed_number c.args.finished.now.items c.push.new.self.items c.in_ok-node.node c.in_ok-push.ensures.items;
}
