use Rattle.std.proofs.Common.{length, subst}
use Rattle.and_cells.specs.Ranges.{IsInRangeOrHalf}
use Rattle.and_cells.specs.Rows.{plain}
use Rattle.and_cells.specs.Seen.{LeadsTo}
use Rattle.and_determinacy.proofs.Parted.{structure_is}
use Rattle.and_determinacy.proofs.parting.structure_at.Goals as goal

pub returns-in-Node : goal.returns-in-Node
returns-in-Node g c =
    let P = g.N.Naming.program in
    let row = c.args.cells.now in
    structure_is P row c.args.part c.in-Node.node c.in-Node.base c.requires.part
    (subst (IsInRangeOrHalf P (length row)) c.in-Node.is c.end_of.ensures.in_range)
    (subst (LeadsTo (plain row) c.args.part) c.in-Node.is c.end_of.ensures.leads)
