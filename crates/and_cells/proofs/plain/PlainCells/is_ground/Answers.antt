use Rattle.std.proofs.Common.{subst}
use Rattle.and_cells.specs.Ground.{AreFounded}
use Rattle.and_cells.proofs.Grounding.{founded_is_ground}
use Rattle.and_cells.proofs.plain.PlainCells.is_ground.Goals as goal

pub returns : goal.returns
returns g c = λ is.
    let P = g.N.Naming.program in
    founded_is_ground P c.args.self.now c.self.inside.known (subst (λ row. AreFounded P row c.self.inside.known) c.self.view_is c.self.invariant.2) c.args.at
    (c.has.ensures.among is)
