use Rattle.std.proofs.Common.{ap}
use Rattle.std.specs.Prelude.{Ok}
use Rattle.and_circles.specs.declared.explorer.Explored.{Explored}
use Rattle.and_cell_laws.proofs.Circles.{circles_have_no_solution}
use Rattle.and_unify.proofs.SettlingEnds.{names_half}
use Rattle.and_unify.proofs.settling.ends.Goals as goal

pub returns-in-Circle-clause-names_half : goal.returns-in-Circle-clause-names_half
returns-in-Circle-clause-names_half g c = λ is t s.
    let circle = c.in_ok-explore.ensures.circle c.in-Circle.cell (ap (λ (x : Explored). Ok x) c.in-Circle.is) in
    absurd (circles_have_no_solution g.N.Naming.program c.args.cells.now c.in-Circle.cell t c.requires.sound circle s)

pub returns-in-Half-clause-names_half : goal.returns-in-Half-clause-names_half
returns-in-Half-clause-names_half g c = λ is t s.
    let found = c.in_ok-explore.ensures.half c.in-Half.cell (ap (λ (x : Explored). Ok x) c.in-Half.is) in
    names_half g.N.Naming.program c.args.cells.now t c.args.root c.in-Half.cell c.requires.sound s found.0 found.1
