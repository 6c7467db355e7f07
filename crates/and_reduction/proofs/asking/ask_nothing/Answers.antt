use Rattle.std.proofs.Common.{◌≤◌, length, arith}
use Rattle.and_program.specs.declared.item.ItemNode.TheVariants.{Call}
use Rattle.and_reduction.proofs.AskingNothing.{one_passed, all_passed}
use Rattle.and_reduction.proofs.asking.ask_nothing.Goals as goal

pub loop-item-preserved : goal.loop-item-preserved
loop-item-preserved c =
    one_passed c.args.items.now c.loop-item.item-index (Call (record { 0 = 0 })) c.loop-item-test.true (c.asks.ensures c.if-asks.false)
    c.loop-item.invariant

pub returns : goal.returns
returns c = λ e.
    let past : length c.args.items.now ≤ c.loop-item.item-index = omega arith in
    all_passed c.args.items.now c.loop-item.item-index past c.loop-item.invariant
