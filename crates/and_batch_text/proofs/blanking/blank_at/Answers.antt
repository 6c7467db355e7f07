use Rattle.std.proofs.Common.{arith}
use Rattle.and_batch_text.proofs.Blanks.{blank_other, blank_newline}
use Rattle.and_batch_text.proofs.blanking.blank_at.Goals as goal

pub returns-then-bytes-place-ne10 : goal.returns-then-bytes-place-ne10
returns-then-bytes-place-ne10 c = blank_other c.args.place c.args.bytes.now c.requires (λ e. c.if-bytes-place-ne10.true e)

pub returns-else-bytes-place-ne10 : goal.returns-else-bytes-place-ne10
returns-else-bytes-place-ne10 c = blank_newline c.args.place c.args.bytes.now c.requires (omega (arith, c.if-bytes-place-ne10.false))
