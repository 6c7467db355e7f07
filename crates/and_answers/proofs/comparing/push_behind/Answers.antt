use Rattle.std.proofs.Common.{◌++◌, drop}
use Rattle.and_answers.proofs.CompareLemmas.{copied_more}
use Rattle.and_answers.proofs.comparing.push_behind.Goals as goal

pub loop-place-preserved : goal.loop-place-preserved
loop-place-preserved c =
    copied_more c.args.code.now c.loop-place.short c.push.new.self (c.args.short.now ++ drop c.args.from c.args.code.now) c.loop-place.place
    c.at.result.now.0 c.at.ensures c.in_ok-push.ensures.ok c.loop-place.invariant
