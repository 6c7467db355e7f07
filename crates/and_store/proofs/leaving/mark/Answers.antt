use Rattle.std.proofs.Common.{◌∙◌, true, get_or}
use Rattle.std.proofs.Math.ListN.{length-set}
use Rattle.and_store.proofs.Over.{marks_one, at_default}
use Rattle.and_store.proofs.leaving.mark.Goals as goal

pub loop-i-preserved : goal.loop-i-preserved
loop-i-preserved c =
    let ws = c.args.waiters.now in
    let x = get_or ws c.loop-i.i 0 in (
      length-set c.loop-i.marks x true ∙ c.loop-i.invariant.0,
      marks_one c.args.marks.now c.loop-i.marks ws c.loop-i.i x c.loop-i-test.true (at_default ws c.loop-i.i c.loop-i-test.true) c.loop-i.invariant.0
          c.loop-i.invariant.1,
    )
