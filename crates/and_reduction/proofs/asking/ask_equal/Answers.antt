use Rattle.and_step_laws.proofs.AskedPairs.{sides_asked}
use Rattle.and_branch_laws.proofs.Loading.{loaded_is, resolved_is}
use Rattle.and_reduction.proofs.Writing.{asks_nodes}
use Rattle.and_reduction.proofs.asking.ask_equal.Goals as goal

pub returns-clause-asked : goal.returns-clause-asked
returns-clause-asked g c =
    let P = g.N.Naming.program in
    let loaded = c.args.loaded.now in
    let row = c.args.cells.now in
    let floor = c.args.floor in
    let facts = loaded_is P loaded c.requires.program c.skeleton_is_of_the_program.ensures.skeleton
    c.skeleton_is_of_the_program.ensures.own_variables c.skeleton_is_of_the_program.ensures.few in
    sides_asked P facts row floor c.args.left.0 c.args.right.0 c.requires.item c.args.pairs.now c.push.new.self
    c.resolve-left.result c.resolve-right.result
    (resolved_is P loaded c.args.left floor c.resolve-left.result c.requires.program c.resolve-left.ensures)
    (resolved_is P loaded c.args.right floor c.resolve-right.result c.requires.program c.resolve-right.ensures)
    c.requires.ready c.in_ok-push.ensures.ok

pub returns-clause-nodes : goal.returns-clause-nodes
returns-clause-nodes g c =
    let P = g.N.Naming.program in
    let loaded = c.args.loaded.now in
    asks_nodes P c.args.floor c.args.pairs.now c.push.new.self c.resolve-left.result c.resolve-right.result c.args.left.0 c.args.right.0
    (resolved_is P loaded c.args.left c.args.floor c.resolve-left.result c.requires.program c.resolve-left.ensures)
    (resolved_is P loaded c.args.right c.args.floor c.resolve-right.result c.requires.program c.resolve-right.ensures)
    c.in_ok-push.ensures.ok
