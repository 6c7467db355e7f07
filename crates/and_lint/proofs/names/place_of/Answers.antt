use Rattle.std.proofs.Common.{arith}
use Rattle.and_lint.proofs.Counts.{place_here, place_later, place_none}
use Rattle.and_lint.proofs.names.place_of.Goals as goal

pub loop-place-preserved : goal.loop-place-preserved
loop-place-preserved c =
    let more = place_later c.args.number c.args.seen.now c.loop-place.place c.loop-place-test.true c.if-other-number.false in
    let before = c.loop-place.invariant in
    omega arith

pub returns-then-other-number : goal.returns-then-other-number
returns-then-other-number c =
    let here = place_here c.args.number c.args.seen.now c.loop-place.place c.loop-place-test.true c.if-other-number.true in
    let before = c.loop-place.invariant in
    omega arith

pub returns : goal.returns
returns c =
    let none = place_none c.args.number c.args.seen.now c.loop-place.place c.loop-place-test.false in
    let before = c.loop-place.invariant in
    omega arith
