use Rattle.std.proofs.Common.{refl}
use Rattle.and_cells.proofs.Chains.{reads_more, finds_reads}
use Rattle.and_unify.proofs.MeetingSteps.{taken}
use Rattle.and_unify.proofs.descending.takes.Goals as goal

pub returns-in-Won-clause-sets : goal.returns-in-Won-clause-sets
returns-in-Won-clause-sets g c = λ is. (
  c.in-Cell.cell,
  taken g.C.Cells.program c.args.pair.left c.args.pair.right c.deref-to.result c.in-Cell.cell (g.C.Cells.seen c.args.cells.now)
      (g.C.Cells.seen c.deref-to.new.cells) (g.C.Cells.seen c.bind.new.self)
      c.in-Cell.is c.requires.in_range.1
      (record {
        reads = c.deref-to.ensures.reads;
        leads = c.deref-to.ensures.leads;
        in_range = c.deref-to.ensures.in_range;
        written = c.deref-to.ensures.written;
      })
      (c.may_hold.ensures c.if-not-may_hold.false) (c.bind.ensures.won c.in-Won.is),
  c.note.ensures,
)

pub returns-in-Already-clause-reads : goal.returns-in-Already-clause-reads
returns-in-Already-clause-reads g c = λ is. (
  reads_more (g.C.Cells.seen c.args.cells.now) (g.C.Cells.seen c.deref-to.new.cells) (g.C.Cells.seen c.bind.new.self) c.deref-to.ensures.reads
      (finds_reads g.C.Cells.program c.in-Cell.cell c.in-Already.field-0 (g.C.Cells.seen c.deref-to.new.cells) (g.C.Cells.seen c.bind.new.self)
      (c.bind.ensures.already c.in-Already.field-0 c.in-Already.is)),
  refl,
)
