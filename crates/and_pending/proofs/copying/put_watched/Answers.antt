use Rattle.and_pending.proofs.CopiedGoals.{none_copied, more_copied, all_copied}
use Rattle.and_pending.proofs.copying.put_watched.Goals as goal

pub loop-pending-init : goal.loop-pending-init
loop-pending-init c = none_copied c.args.from.now c.args.cells.now.items c.args.list.now.items

pub loop-pending-preserved : goal.loop-pending-preserved
loop-pending-preserved c =
    more_copied c.args.from.now c.args.goals.now c.loop-pending.pending-index _ c.args.cells.now.items c.args.list.now.items c.loop-pending.cells.items
    c.loop-pending.list.items c.loop-pending-test.true c.loop-pending.invariant c.in_ok-copied.copied c.with_cells.new.cells.items
    c.in_ok-copied.ensures c.push.new.self.items c.in_ok-push.ensures.items

pub returns : goal.returns
returns c =
    all_copied c.args.from.now c.args.goals.now c.loop-pending.pending-index c.args.cells.now.items c.args.list.now.items c.loop-pending.cells.items
    c.loop-pending.list.items c.loop-pending-test.false c.loop-pending.invariant
