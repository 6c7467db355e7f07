use Rattle.std.proofs.Common.{true, ◌≤◌, arith}
use Rattle.and_modes.specs.Kept.{assignment_of}
use Rattle.and_modes.specs.Totals.{height}
use Rattle.and_modes.proofs.Looking.{height_at_most}
use Rattle.and_modes.proofs.inference.look_at_long.Goals as goal

pub returns-clause-above : goal.returns-clause-above
returns-clause-above c = λ fell is other well above.
    (c.look_along_all.ensures fell is).0 other well (c.settle_short.ensures.above c.in_ok-settle_short.was other well above)

pub returns-clause-at_most : goal.returns-clause-at_most
returns-clause-at_most c = λ fell is.
    let settled = c.settle_short.ensures.lower c.in_ok-settle_short.was in
    let most : height (assignment_of c.look_along_all.new.modes) ≤ height (assignment_of c.settle_short.new.modes) =
    height_at_most fell (assignment_of c.settle_short.new.modes) (assignment_of c.look_along_all.new.modes) (Unit {0})
    (c.look_along_all.ensures fell is).1 in
    omega arith

pub returns-clause-lower : goal.returns-clause-lower
returns-clause-lower c = λ is.
    let settled = c.settle_short.ensures.lower c.in_ok-settle_short.was in
    let lower = (c.look_along_all.ensures true is).1 in
    omega arith
