use Rattle.std.proofs.Common.{arith}
use Rattle.and_code.proofs.Linking.{passed_more}
use Rattle.and_code.proofs.places.among.Goals as goal

pub loop-place-preserved : goal.loop-place-preserved
loop-place-preserved c =
    passed_more c.args.reductions.now c.args.node c.args.item c.args.from c.loop-place.place c.at.result.now c.at.ensures c.loop-place.invariant
    (c.takes.ensures.no c.if-takes.false)

pub returns-clause-none : goal.returns-clause-none
returns-clause-none c = λ e k r low high at. c.loop-place.invariant k r low (omega arith) at
