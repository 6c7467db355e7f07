use Rattle.std.proofs.Common.{◌∙◌, subst}
use Rattle.and_model.specs.declared.reference.Ref.TheVariants.{Cell}
use Rattle.and_cells.specs.Seen.{here, Misses}
use Rattle.and_cells.proofs.Chains.{reads_nothing}
use Rattle.and_arith.proofs.Looking.{looked, goes_on}
use Rattle.and_arith.proofs.chains.follow.Goals as goal

pub loop-word-init : goal.loop-word-init
loop-word-init g c =
    let first = g.C.Cells.seen c.args.cells.now in
    let look = c.look-word.ensures in record {
      over = look.over;
      grew = look.grew;
      looked = looked g.C.Cells.program (g.C.Cells.shared (g.C.Cells.over c.args.cells.now)) first first (g.C.Cells.seen c.look-word.new.self) c.args.from
          c.args.from c.look-word.result (reads_nothing first) (here (Cell c.args.from)) c.requires
          look.only_reads look.found look.free;
    }

pub loop-word-preserved : goal.loop-word-preserved
loop-word-preserved g c =
    let first = g.C.Cells.seen c.args.cells.now in
    let mid = g.C.Cells.seen c.loop-word.cells in
    let i = c.loop-word.invariant in
    let look = c.look-word-in-Cell.ensures in
    let (leads, inside) = goes_on g.C.Cells.program (g.C.Cells.shared (g.C.Cells.over c.args.cells.now)) first mid c.args.from c.loop-word.cell c.in-Cell.next
    c.loop-word.word i.looked c.in-Cell.is in record {
      over = look.over ∙ i.over;
      grew = g.met.C.Cells.grew_on c.args.cells.now c.loop-word.cells c.look-word-in-Cell.new.self i.grew look.grew;
      looked = looked g.C.Cells.program (g.C.Cells.shared (g.C.Cells.over c.args.cells.now)) first mid (g.C.Cells.seen c.look-word-in-Cell.new.self)
          c.args.from c.in-Cell.next c.look-word-in-Cell.result i.looked.reads leads inside
          look.only_reads look.found
          (λ e. subst (λ x. Misses (g.C.Cells.shared x) c.in-Cell.next mid (g.C.Cells.seen c.look-word-in-Cell.new.self)) i.over (look.free e));
    }
