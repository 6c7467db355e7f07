use Rattle.std.proofs.Common.{refl}
use Rattle.and_program.specs.Items.{node_item}
use Rattle.and_branch_laws.proofs.Loading.{loaded_is}
use Rattle.and_branch_laws.proofs.Nodes.{node_found}
use Rattle.and_step_laws.proofs.Goals.{runnable}
use Rattle.and_reduction.proofs.running.runnable_item.Goals as goal

pub returns : goal.returns
returns g c =
    let P = g.N.Naming.program in
    let k = c.skeleton_is_of_the_program.ensures in
    let facts = loaded_is P c.args.loaded.now c.requires.program k.skeleton k.own_variables k.few in
    runnable P facts c.args.cells.now c.args.goal c.requires.goal (node_item c.item_in.result)
    (node_found P c.args.loaded.now c.args.goal c.item_in.result c.item_in.result c.requires.program c.item_in.ensures refl)
