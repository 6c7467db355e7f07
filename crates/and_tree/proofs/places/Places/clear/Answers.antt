use Rattle.and_tree.proofs.Cells.{cleared_cell, is_within}
use Rattle.and_tree.proofs.places.Places.clear.Goals as goal

pub returns-clause-cleared : goal.returns-clause-cleared
returns-clause-cleared g c =
    let p = c.self.inside in
    let key_of = g.B.Keyed.key_of in
    let cell = c.index_mut.result.now in
    let low = is_within key_of p.limit p.hands.items p.cells.items c.args.self.now c.args.cell c.self.view_is c.requires.cell in
    rw c.take.ensures.after
    (cleared_cell key_of p.limit p.hands.items p.cells.items c.args.self.now c.args.cell cell c.self.view_is low c.index_mut.ensures.value)
