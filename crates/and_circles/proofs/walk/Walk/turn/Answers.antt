use Rattle.and_circles.proofs.Turning.{still_ended}
use Rattle.and_circles.proofs.walk.Walk.turn.Goals as goal

pub returns-in-Enter-clause-ended : goal.returns-in-Enter-clause-ended
returns-in-Enter-clause-ended g c =
    still_ended g.N.Naming.program c.args.cells.now c.args.self.now c.enter.new.self
    c.enter.ensures.goes.stays c.enter.ensures.structures c.requires.ended
