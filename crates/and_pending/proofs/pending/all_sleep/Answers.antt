use Rattle.std.proofs.Common.{List, subst}
use Rattle.std.specs.Prelude.{All}
use Rattle.std.proofs.lemmas.List.{take_all}
use Rattle.std.proofs.lemmas.List.Elements.{All-more}
use Rattle.and_pending.specs.declared.pending.PendingGoal.{PendingGoal}
use Rattle.and_pending.proofs.WatchedGoals.{SleepsIn}
use Rattle.and_pending.proofs.pending.all_sleep.Goals as goal

pub loop-pending-preserved : goal.loop-pending-preserved
loop-pending-preserved g c =
    All-more (SleepsIn c.args.cells.now c.args.row.now) c.args.goals.now c.loop-pending.pending-index _ c.loop-pending-test.true
    c.loop-pending.invariant (c.sleeps.ensures c.if-not-sleeps.false)

pub returns : goal.returns
returns g c = λ yes.
    subst (λ (ps : List PendingGoal). All (SleepsIn c.args.cells.now c.args.row.now) ps)
    (take_all c.loop-pending.pending-index c.args.goals.now c.loop-pending-test.false) c.loop-pending.invariant
