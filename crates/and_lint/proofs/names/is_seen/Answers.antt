use Rattle.std.proofs.Common.{◌∙◌, sym}
use Rattle.and_lint.proofs.Counts.{has_here, has_later, has_none}
use Rattle.and_lint.proofs.names.is_seen.Goals as goal

pub loop-other-preserved : goal.loop-other-preserved
loop-other-preserved c =
    sym (has_later c.args.number c.args.seen.now c.loop-other.other-index c.loop-other-test.true c.if-other-number.false) ∙ c.loop-other.invariant

pub returns-then-other-number : goal.returns-then-other-number
returns-then-other-number c =
    sym (has_here c.args.number c.args.seen.now c.loop-other.other-index c.loop-other-test.true c.if-other-number.true) ∙ c.loop-other.invariant

pub returns : goal.returns
returns c = sym (has_none c.args.number c.args.seen.now c.loop-other.other-index c.loop-other-test.false) ∙ c.loop-other.invariant
