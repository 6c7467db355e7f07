use Rattle.std.proofs.Common.{arith}
use Rattle.and_heads.proofs.ending.ends_at_look.Goals as goal

pub returns-then-cell-floor : goal.returns-then-cell-floor
returns-then-cell-floor g c = λ is.
    let low = c.if-cell-floor.true in
    (λ below. c.word_or_parts_end.ensures is, λ above. absurd (omega (arith, above, low)))

pub returns-else-cell-floor : goal.returns-else-cell-floor
returns-else-cell-floor g c = λ is.
    let above = c.ends_below.ensures.above is in
    (λ low. absurd (omega (arith, above, low)), λ _. c.ends_below.ensures.ends is)
