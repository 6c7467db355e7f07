use Rattle.std.proofs.Common.{false}
use Rattle.and_circles.proofs.Sufficing.{ground_ends}
use Rattle.and_heads.proofs.ending.in_line.Goals as goal

pub loop-turn-init : goal.loop-turn-init
loop-turn-init g c = record { in_range = c.requires.in_range; ends = λ ends. ends }

pub returns-then-is_known : goal.returns-then-is_known
returns-then-is_known g c = λ _.
    c.loop-turn.invariant.ends
    (ground_ends g.N.Naming.program c.args.cells.now c.args.floor false c.loop-turn.at (c.is_known.ensures c.if-is_known.true))

pub loop-turn-preserved : goal.loop-turn-preserved
loop-turn-preserved g c =
    let goes = c.beyond.ensures.onward c.in-Onward.next c.in-Onward.is in
    record { in_range = goes.in_range; ends = λ ends. c.loop-turn.invariant.ends (goes.ends ends) }

pub returns-in-Ended : goal.returns-in-Ended
returns-in-Ended g c = λ _. c.loop-turn.invariant.ends (c.beyond.ensures.ended c.in-Ended.is)
