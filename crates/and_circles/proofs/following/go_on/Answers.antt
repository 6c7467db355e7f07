use Rattle.std.proofs.Common.{false}
use Rattle.and_cells.specs.Ends.{Ends}
use Rattle.and_circles.proofs.Sufficing.{ground_ends, puts_nothing}
use Rattle.and_circles.proofs.following.go_on.Goals as goal

pub returns-then-is_ground-clause-leads : goal.returns-then-is_ground-clause-leads
returns-then-is_ground-clause-leads g c =
    let P = g.N.Naming.program in
    let row = c.args.cells.now in
    puts_nothing P row c.args.floor (Ends P row c.args.floor false c.args.at) c.args.visits.now.items
    (ground_ends P row c.args.floor false c.args.at (c.is_ground.ensures c.if-is_ground.true))
