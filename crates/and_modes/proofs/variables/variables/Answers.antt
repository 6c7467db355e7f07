use Rattle.std.proofs.Common.{List}
use Rattle.and_program.specs.Loaded.{skeleton_of}
use Rattle.and_model.specs.Terms.{variables_of}
use Rattle.and_program.specs.Skeletons.{Shape, node_term}
use Rattle.and_modes.proofs.Walking.{goes_on, fewer, variable_goes, compound_goes}
use Rattle.and_modes.proofs.variables.variables.Goals as goal

pub loop-next-preserved-in-Continue-branch-2 : goal.loop-next-preserved-in-Continue-branch-2
loop-next-preserved-in-Continue-branch-2 c =
    let nodes : List Shape = (skeleton_of c.args.loaded.now).nodes in
    let n = c.in-Some.next in
    goes_on nodes c.loop-next.found.items c.push-in-Variable.new.self.items c.loop-next.left.items c.pop.new.self.items n c.pop.new.self.items
    (variables_of (node_term nodes c.args.node.0)) c.args.loaded.now.kept.falls c.loop-next.invariant
    (variable_goes nodes c.loop-next.found.items c.push-in-Variable.new.self.items c.loop-next.left.items c.pop.new.self.items n c.in-Variable.number
    c.in-Some.ensures.items c.in-Variable.ensures.shape c.in_ok-push-in-Variable.ensures.items)

pub loop-next-smaller : goal.loop-next-smaller
loop-next-smaller c =
    let nodes : List Shape = (skeleton_of c.args.loaded.now).nodes in
    let n = c.in-Some.next in
    fewer nodes c.loop-next.found.items c.loop-next.found.items c.loop-next.left.items c.push_arguments.new.stack.items n c.pop.new.self.items
    (variables_of (node_term nodes c.args.node.0)) c.args.loaded.now.kept.falls c.loop-next.invariant
    (compound_goes nodes c.loop-next.found.items c.loop-next.left.items c.push_arguments.new.stack.items c.pop.new.self.items n
    c.in-Compound.name c.in-Compound.count
    c.in-Some.ensures.items c.in-Compound.ensures.shape c.in_ok-push_arguments-in-Compound.ensures)

pub loop-next-preserved : goal.loop-next-preserved
loop-next-preserved c =
    let nodes : List Shape = (skeleton_of c.args.loaded.now).nodes in
    let n = c.in-Some.next in
    goes_on nodes c.loop-next.found.items c.loop-next.found.items c.loop-next.left.items c.push_arguments.new.stack.items n c.pop.new.self.items
    (variables_of (node_term nodes c.args.node.0)) c.args.loaded.now.kept.falls c.loop-next.invariant
    (compound_goes nodes c.loop-next.found.items c.loop-next.left.items c.push_arguments.new.stack.items c.pop.new.self.items n
    c.in-Compound.name c.in-Compound.count
    c.in-Some.ensures.items c.in-Compound.ensures.shape c.in_ok-push_arguments-in-Compound.ensures)
