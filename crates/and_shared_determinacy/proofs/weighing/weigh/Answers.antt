use Rattle.std.proofs.Common.{subst, sym}
use Rattle.and_program.specs.Items.{relation}
use Rattle.and_cells.specs.Ranges.{IsNodeInRange}
use Rattle.and_cells.specs.Parts.{part_at}
use Rattle.and_cells.proofs.Chains.{reads_more}
use Rattle.and_shared_determinacy.proofs.Weighed.{side_later, sides_over}
use Rattle.and_shared_determinacy.proofs.weighing.weigh.Goals as goal

pub find-requires-in-Side-clause-node : goal.find-requires-in-Side-clause-node
find-requires-in-Side-clause-node g c =
    subst (λ n. IsNodeInRange g.C.Cells.program n c.args.right.0 c.args.base) (sym c.find.ensures.reads.words) c.requires.right

pub returns-in-Side-find-clause-reads : goal.returns-in-Side-find-clause-reads
returns-in-Side-find-clause-reads g c =
    reads_more (g.C.Cells.seen c.args.cells.now) (g.C.Cells.seen c.find.new.cells) (g.C.Cells.seen c.find-in-Side.new.cells) c.find.ensures.reads
    c.find-in-Side.ensures.reads

pub returns-in-PutOff-find-clause-reads : goal.returns-in-PutOff-find-clause-reads
returns-in-PutOff-find-clause-reads g c =
    reads_more (g.C.Cells.seen c.args.cells.now) (g.C.Cells.seen c.find.new.cells) (g.C.Cells.seen c.find-in-Side.new.cells) c.find.ensures.reads
    c.find-in-Side.ensures.reads

pub returns-in-Memory-find-clause-reads : goal.returns-in-Memory-find-clause-reads
returns-in-Memory-find-clause-reads g c =
    reads_more (g.C.Cells.seen c.args.cells.now) (g.C.Cells.seen c.find.new.cells) (g.C.Cells.seen c.find-in-Side.new.cells) c.find.ensures.reads
    c.find-in-Side.ensures.reads

pub returns-in-Side-find-clause-fails : goal.returns-in-Side-find-clause-fails
returns-in-Side-find-clause-fails g c = λ is.
    let P = g.C.Cells.program in
    let mid = g.C.Cells.seen c.find.new.cells in
    let new = g.C.Cells.seen c.find-in-Side.new.cells in
    let left = part_at P c.args.base c.args.left.0 in
    let right = part_at P c.args.base c.args.right.0 in
    sides_over P new (relation c.args.by) left right c.in-Side.first c.in-Side-find.second
    (side_later P mid new left c.in-Side.first c.find-in-Side.ensures.reads.keeps (c.find.ensures.side c.in-Side.first c.in-Side.is))
    (c.find-in-Side.ensures.side c.in-Side-find.second c.in-Side-find.is) (c.answer.ensures.fails is)
