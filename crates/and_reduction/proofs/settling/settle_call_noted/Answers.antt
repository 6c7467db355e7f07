use Rattle.std.proofs.Common.{subst}
use Rattle.and_reduction.specs.Trails.{AreNoted}
use Rattle.and_reduction.proofs.NotedSteps.{settling_noted}
use Rattle.and_reduction.proofs.settling.settle_call_noted.Goals as goal

pub returns-in-Ok-clause-noted : goal.returns-in-Ok-clause-noted
returns-in-Ok-clause-noted g c = λ other.
    settling_noted c.args.trail.now c.note.new.self c.settle_call-answer.new.self c.args.cells.now c.settle_call-answer.new.cells
    c.settle_call-answer.ensures.bound
    (subst (AreNoted c.args.trail.now c.note.new.self) c.bound.ensures c.in-Ok.ensures)
