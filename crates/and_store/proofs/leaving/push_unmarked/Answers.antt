use Rattle.std.proofs.Common.{◌∙◌, ap, ℕ, Vec, Global}
use Rattle.and_store.proofs.Over.{pushed, skipped}
use Rattle.and_store.proofs.leaving.push_unmarked.Goals as goal
use Rattle.and_store.proofs.leaving.push_unmarked.Goals.{then-not-marks-waiter+in_ok-push, else-not-marks-waiter}

pub loop-i-preserved : goal.loop-i-preserved
loop-i-preserved c = elim c.if-not-marks-waiter.branch [
  | then-not-marks-waiter+in_ok-push w ↦ ap (λ (v : Vec ℕ Global). v.items) w.left-is ∙ w.in_ok-push.ensures.items
      ∙ pushed c.args.marks.now c.args.first c.loop-i.i c.args.left.now.items c.loop-i.left.items c.loop-i.invariant w.if-not-marks-waiter.true
  | else-not-marks-waiter w ↦ ap (λ (v : Vec ℕ Global). v.items) w.left-is
      ∙ skipped c.args.marks.now c.args.first c.loop-i.i c.args.left.now.items c.loop-i.left.items c.loop-i.invariant w.if-not-marks-waiter.false
]
