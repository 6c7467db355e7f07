use Rattle.std.proofs.Common.{arith}
use Rattle.std.proofs.lemmas.List.Edits.{map_over_more}
use Rattle.and_pending.proofs.WatchedGoals.{cleared}
use Rattle.and_pending.proofs.filling.stop_watching.Goals as goal

pub loop-place-preserved : goal.loop-place-preserved
loop-place-preserved c =
    let low = c.loop-place-test.true in
    let many = c.len-place-end.ensures in
    map_over_more cleared c.args.list.now.items c.loop-place.list.items c.loop-place.place c.index_mut.result.now (omega arith)
    c.loop-place.invariant c.index_mut.ensures.value
