use Rattle.std.proofs.Common.{get_or, refl}
use Rattle.and_program.specs.Loaded.{skeleton_of}
use Rattle.and_program.specs.declared.item.ItemNode.TheVariants.{Call}
use Rattle.and_cells.specs.Parts.{named}
use Rattle.and_workers.proofs.Asked.{sides_there, one_more_asked, fails_later}
use Rattle.and_workers.proofs.asking.ask_items.Goals as goal

pub ask_item-requires-clause-item : goal.ask_item-requires-clause-item
ask_item-requires-clause-item c =
    sides_there (skeleton_of c.args.loaded.now).nodes 0 c.items-item-items.result.now c.items-item-items.ensures.there c.loop-item.item-index
    (Call (record { 0 = 0 })) c.loop-item-test.true

pub loop-item-preserved : goal.loop-item-preserved
loop-item-preserved c =
    let items = c.items-item-items.result.now in
    let index = c.loop-item.item-index in
    let item = get_or items index (Call (record { 0 = 0 })) in
    record {
      asks = one_more_asked (named c.args.loaded.now) c.args.floor items index (Call (record { 0 = 0 })) item _ _ _ c.loop-item-test.true refl
          (c.in_ok-ask_item.ensures.asked (let t = c.if-not-branch.false in cc)) c.loop-item.invariant.asks;
      fails = fails_later items index (Call (record { 0 = 0 })) item _ c.loop-item-test.true refl
          (c.in_ok-ask_item.ensures.none (let t = c.if-not-branch.false in cc))
          c.loop-item.invariant.fails;
    }
