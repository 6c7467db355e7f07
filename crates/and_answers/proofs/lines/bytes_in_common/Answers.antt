use Rattle.std.proofs.Common.{arith}
use Rattle.std.proofs.lemmas.List.{take_more_same}
use Rattle.and_answers.proofs.lines.bytes_in_common.Goals as goal

pub loop-count-preserved : goal.loop-count-preserved
loop-count-preserved c = (
  take_more_same c.args.one.now c.args.other.now c.loop-count.count 0 (omega arith) (omega arith) c.loop-count.invariant.0 c.if-one-count.false,
  omega arith,
)
