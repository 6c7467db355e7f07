use Rattle.std.proofs.Common.{subst}
use Rattle.and_program.specs.Loaded.{skeleton_of}
use Rattle.and_program.specs.Skeletons.{IsThere}
use Rattle.and_program.specs.Items.{node_item}
use Rattle.and_program.specs.declared.item.ItemNode.{ItemNode}
use Rattle.and_program.specs.declared.item.ItemNode.TheVariants.{Call}
use Rattle.and_modes.proofs.Walking.{item_there}
use Rattle.and_modes.proofs.callers.Callers.note_clause.Goals as goal

pub note_call-requires : goal.note_call-requires
note_call-requires c =
    let nodes = (skeleton_of c.args.loaded.now).nodes in
    let there = item_there nodes 0 c.items-item-items.result.now c.loop-item.item-index (Call (record { 0 = 0 })) c.items-item-items.ensures.there
    c.loop-item-test.true in
    subst (λ (item : ItemNode). IsThere nodes there.0 (node_item item)) c.in-Call.is there.1
