use Rattle.and_pending.proofs.Passing.{one_passed, fewer}
use Rattle.and_pending.proofs.pending.PendingGoals.pass_sleepers.Goals as goal

pub loop-self-preserved : goal.loop-self-preserved
loop-self-preserved g c =
    let (w, rest, next, sleeps) = c.next_sleeps.ensures c.loop-self-test.true in
    one_passed c.args.row.now c.args.self.now c.loop-self.self c.pass.new.self w rest next (c.in_ok-pass.ensures w rest next) c.loop-self.invariant sleeps

pub loop-self-smaller : goal.loop-self-smaller
loop-self-smaller g c =
    let (w, rest, next, sleeps) = c.next_sleeps.ensures c.loop-self-test.true in
    fewer c.args.row.now c.args.self.now c.loop-self.self c.pass.new.self w rest next (c.in_ok-pass.ensures w rest next)
