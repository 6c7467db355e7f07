use Rattle.and_batch_text.proofs.Blanks.{all_begun, all_next}
use Rattle.and_batch_text.proofs.blanking.blank_all.Goals as goal

pub loop-number-init : goal.loop-number-init
loop-number-init c = all_begun c.args.bytes.now c.args.spans.now

pub loop-number-preserved : goal.loop-number-preserved
loop-number-preserved c =
    all_next c.args.spans.now c.loop-number.number _ c.args.bytes.now c.loop-number.bytes c.blank.new.bytes c.loop-number-test.true c.loop-number.invariant
    c.blank.ensures
