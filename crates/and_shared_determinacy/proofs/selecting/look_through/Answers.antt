use Rattle.std.proofs.Common.{◌+◌, ◌≤◌, ap, arith}
use Rattle.and_overlay.specs.Settings.{own_in}
use Rattle.and_shared_determinacy.proofs.Looked.{look_below}
use Rattle.and_shared_determinacy.proofs.TrialRanges.{range_more}
use Rattle.and_shared_determinacy.proofs.selecting.look_through.Goals as goal

pub at-requires-clause-node : goal.at-requires-clause-node
at-requires-clause-node g c =
    let words = (g.C.Cells.seen c.args.overlay.now.cells.now).words in
    let most : c.args.overlay.now.below ≤ words + c.args.overlay.now.frame = omega (arith, c.args.overlay.now.words) in
    range_more g.C.Cells.program c.args.overlay.now.below (words + c.args.overlay.now.frame) c.args.node.0 c.args.base most c.requires.node

pub returns-clause-look : goal.returns-clause-look
returns-clause-look g c =
    let old = c.args.overlay.now in
    let new = c.at.new.cells in
    look_below g.C.Cells.program (g.C.Cells.seen old.cells.now) (g.C.Cells.seen new.cells.now) old.frame new.frame
    (own_in g.C.Cells.seen old.scratch.now.settings.items) (own_in g.C.Cells.seen new.scratch.now.settings.items) old.scratch.now.looked.listed
    new.scratch.now.looked.listed
    (record {
      nothing = ap (own_in g.C.Cells.seen) c.requires.nothing;
      begun = old.kept;
      begun_coherent = g.met.C.Cells.coherent old.cells.now;
      over = new.kept;
      coherent = g.met.C.Cells.coherent new.cells.now;
      keeps = c.at.ensures.grew.only_reads.keeps;
    })
    c.at.ensures.reads c.args.node.0 c.args.base c.at.result c.at.ensures.look
