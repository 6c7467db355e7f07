use Rattle.std.proofs.Common.{ap, sym, arith}
use Rattle.and_histories.specs.PlainTree.{Cell}
use Rattle.and_tree.proofs.Cells.{own_is_cell, cell_there, cell_seen_at}
use Rattle.and_tree.proofs.places.Places.own_serial.Goals as goal

pub index-requires : goal.index-requires
index-requires g c =
    let p = c.self.inside in
    let low = own_is_cell g.B.Keyed.key_of p.limit p.hands.items p.cells.items c.args.self.now c.args.team c.args.cell c.self.view_is
    c.self.invariant.0 c.requires.team c.requires.own in
    omega (arith, low, p.cells.ok.0)

pub returns : goal.returns
returns g c =
    let p = c.self.inside in
    let key_of = g.B.Keyed.key_of in
    let low = own_is_cell key_of p.limit p.hands.items p.cells.items c.args.self.now c.args.team c.args.cell c.self.view_is
    c.self.invariant.0 c.requires.team c.requires.own in
    let seen = cell_seen_at key_of p.limit p.hands.items p.cells.items c.args.self.now c.args.cell c.index.result.now c.self.view_is low
    c.index.ensures in record {
      is_cell = cell_there key_of p.limit p.hands.items p.cells.items c.args.self.now c.args.cell c.self.view_is low;
      serial = sym (ap (λ (x : Cell). x.serial) seen);
    }
