use Rattle.std.proofs.Common.{◌+◌, refl}
use Rattle.and_tree.proofs.Cells.{opened_cell, is_within}
use Rattle.and_tree.proofs.places.Places.open_cell.Goals as goal

pub returns : goal.returns
returns g c =
    let p = c.self.inside in
    let key_of = g.B.Keyed.key_of in
    let cell = c.index.result.now in
    let low = is_within key_of p.limit p.hands.items p.cells.items c.args.self.now c.args.cell c.self.view_is c.requires.cell in
    opened_cell key_of p.limit p.hands.items p.cells.items c.args.self.now c.args.cell (cell.serial + 1) cell c.args.branch c.self.view_is low
    c.index.ensures refl
