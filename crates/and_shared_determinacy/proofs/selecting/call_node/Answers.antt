use Rattle.std.proofs.Common.{refl}
use Rattle.and_cells.specs.Parts.{named}
use Rattle.and_guards.proofs.Nodes.{loaded_is, clause_is_there, has_node, node_is}
use Rattle.and_shared_determinacy.proofs.TriedCalls.{as_judged, node_over}
use Rattle.and_shared_determinacy.proofs.selecting.call_node.Goals as goal

pub item_node-requires-clause-clause : goal.item_node-requires-clause-clause
item_node-requires-clause-clause c =
    let l = c.args.loaded.now in
    let s = c.skeleton_is_of_the_program.ensures in
    clause_is_there (named l) (loaded_is (named l) l refl s.skeleton s.own_variables s.few) _ c.args.goal
    (as_judged (named l) c.requires.0 c.args.goal c.requires.1)

pub item_node-requires-clause-call : goal.item_node-requires-clause-call
item_node-requires-clause-call c =
    let l = c.args.loaded.now in
    let s = c.skeleton_is_of_the_program.ensures in
    has_node (named l) (loaded_is (named l) l refl s.skeleton s.own_variables s.few) _ c.args.goal (as_judged (named l) c.requires.0 c.args.goal c.requires.1)

pub returns : goal.returns
returns c = λ words can.
    let l = c.args.loaded.now in
    let s = c.skeleton_is_of_the_program.ensures in
    node_over (named l) words c.args.goal c.item_node.result.0
    (node_is (named l) (loaded_is (named l) l refl s.skeleton s.own_variables s.few) _ c.args.goal (as_judged (named l) words c.args.goal can)
    c.item_node.result.0 c.item_node.ensures)
