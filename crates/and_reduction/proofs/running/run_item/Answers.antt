use Rattle.std.proofs.Common.{subst}
use Rattle.and_program.specs.Items.{node_item}
use Rattle.and_program.specs.declared.item.ItemNode.{ItemNode}
use Rattle.and_step_laws.specs.Running.{IsRunnable}
use Rattle.and_reduction.proofs.Noting.{any_noted}
use Rattle.and_reduction.proofs.Writing.{any_nothing}
use Rattle.and_reduction.proofs.running.run_item.Goals as goal

pub run_comparison-requires-clause-item : goal.run_comparison-requires-clause-item
run_comparison-requires-clause-item g c =
    subst (λ (i : ItemNode). IsRunnable g.N.Naming.program c.args.cells.now c.args.goal (node_item i)) c.in-Compare.is c.requires.item

pub run_assignment-requires-clause-item : goal.run_assignment-requires-clause-item
run_assignment-requires-clause-item g c =
    subst (λ (i : ItemNode). IsRunnable g.N.Naming.program c.args.cells.now c.args.goal (node_item i)) c.in-Is.is c.requires.item

pub unreachable-requires : goal.unreachable-requires
unreachable-requires g c =
    subst (λ (i : ItemNode). IsRunnable g.N.Naming.program c.args.cells.now c.args.goal (node_item i)) c.in-Call.is c.requires.item

pub unreachable-requires-in-Equal : goal.unreachable-requires-in-Equal
unreachable-requires-in-Equal g c =
    subst (λ (i : ItemNode). IsRunnable g.N.Naming.program c.args.cells.now c.args.goal (node_item i)) c.in-Equal.is c.requires.item

pub unreachable-requires-in-Fail : goal.unreachable-requires-in-Fail
unreachable-requires-in-Fail g c =
    subst (λ (i : ItemNode). IsRunnable g.N.Naming.program c.args.cells.now c.args.goal (node_item i)) c.in-Fail.is c.requires.item

pub returns-in-Compare-clause-noted : goal.returns-in-Compare-clause-noted
returns-in-Compare-clause-noted g c =
    any_noted c.run_comparison.result c.args.trail.now c.args.cells.now c.run_comparison.new.cells c.run_comparison.ensures.unchanged

pub returns-in-Compare-clause-sets : goal.returns-in-Compare-clause-sets
returns-in-Compare-clause-sets g c =
    any_nothing c.run_comparison.result g.N.Naming.program c.args.cells.now c.run_comparison.new.cells c.args.goal c.run_comparison.ensures.unchanged
