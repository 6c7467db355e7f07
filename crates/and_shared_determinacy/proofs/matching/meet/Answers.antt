use Rattle.and_cells.proofs.Chains.{keeps_more, reads_keeps, reads_more}
use Rattle.and_shared_determinacy.proofs.Comparing.{follow_later, follow_pairs_later}
use Rattle.and_shared_determinacy.proofs.MatchSteps.{left_end, right_end, leads_from, never_from}
use Rattle.and_shared_determinacy.proofs.matching.meet.Goals as goal

pub deref-other-requires-clause-in_range : goal.deref-other-requires-clause-in_range
deref-other-requires-clause-in_range g c =
    let follows = follow_later g.C.Cells.program (g.C.Cells.seen c.args.cells.now) (g.C.Cells.seen c.deref-one.new.cells) c.args.pair.right
    c.deref-one.ensures.reads.keeps c.deref-one.ensures.reads.words c.requires.right in
    follows.0

pub deref-other-requires-clause-written : goal.deref-other-requires-clause-written
deref-other-requires-clause-written g c =
    let follows = follow_later g.C.Cells.program (g.C.Cells.seen c.args.cells.now) (g.C.Cells.seen c.deref-one.new.cells) c.args.pair.right
    c.deref-one.ensures.reads.keeps c.deref-one.ensures.reads.words c.requires.right in
    follows.1

pub meet_ends-requires-clause-one : goal.meet_ends-requires-clause-one
meet_ends-requires-clause-one g c =
    left_end g.C.Cells.program c.args.pair.left c.args.pair.right c.deref-one.result c.deref-other.result
    (g.C.Cells.seen c.args.cells.now) (g.C.Cells.seen c.deref-one.new.cells) (g.C.Cells.seen c.deref-other.new.cells)
    (record {
      reads = c.deref-one.ensures.reads;
      leads = c.deref-one.ensures.leads;
      in_range = c.deref-one.ensures.in_range;
      written = c.deref-one.ensures.written;
    })
    (record {
      reads = c.deref-other.ensures.reads;
      leads = c.deref-other.ensures.leads;
      in_range = c.deref-other.ensures.in_range;
      written = c.deref-other.ensures.written;
    })

pub meet_ends-requires-clause-other : goal.meet_ends-requires-clause-other
meet_ends-requires-clause-other g c =
    right_end g.C.Cells.program c.args.pair.left c.args.pair.right c.deref-one.result c.deref-other.result
    (g.C.Cells.seen c.args.cells.now) (g.C.Cells.seen c.deref-one.new.cells) (g.C.Cells.seen c.deref-other.new.cells)
    (record {
      reads = c.deref-one.ensures.reads;
      leads = c.deref-one.ensures.leads;
      in_range = c.deref-one.ensures.in_range;
      written = c.deref-one.ensures.written;
    })
    (record {
      reads = c.deref-other.ensures.reads;
      leads = c.deref-other.ensures.leads;
      in_range = c.deref-other.ensures.in_range;
      written = c.deref-other.ensures.written;
    })

pub meet_ends-requires-clause-pairs : goal.meet_ends-requires-clause-pairs
meet_ends-requires-clause-pairs g c =
    let old = g.C.Cells.seen c.args.cells.now in
    let mid = g.C.Cells.seen c.deref-one.new.cells in
    let new = g.C.Cells.seen c.deref-other.new.cells in
    let reads = reads_more old mid new c.deref-one.ensures.reads c.deref-other.ensures.reads in
    follow_pairs_later g.C.Cells.program old new c.args.pairs.now reads.keeps reads.words c.requires.pairs

pub returns-clause-grew : goal.returns-clause-grew
returns-clause-grew g c =
    g.met.C.Cells.grew_on c.args.cells.now c.deref-other.new.cells c.meet_ends.new.cells
    (g.met.C.Cells.grew_on c.args.cells.now c.deref-one.new.cells c.deref-other.new.cells c.deref-one.ensures.grew c.deref-other.ensures.grew)
    c.meet_ends.ensures.grew

pub returns-clause-keeps : goal.returns-clause-keeps
returns-clause-keeps g c =
    let old = g.C.Cells.seen c.args.cells.now in
    let mid = g.C.Cells.seen c.deref-one.new.cells in
    let last = g.C.Cells.seen c.deref-other.new.cells in
    keeps_more old last (g.C.Cells.seen c.meet_ends.new.cells)
    (reads_keeps old last (reads_more old mid last c.deref-one.ensures.reads c.deref-other.ensures.reads)) c.meet_ends.ensures.keeps

pub returns-clause-on : goal.returns-clause-on
returns-clause-on g c = λ is.
    leads_from g.C.Cells.program c.args.pair.left c.args.pair.right c.deref-one.result c.deref-other.result
    (g.C.Cells.seen c.args.cells.now) (g.C.Cells.seen c.deref-one.new.cells) (g.C.Cells.seen c.deref-other.new.cells)
    (record {
      reads = c.deref-one.ensures.reads;
      leads = c.deref-one.ensures.leads;
      in_range = c.deref-one.ensures.in_range;
      written = c.deref-one.ensures.written;
    })
    (record {
      reads = c.deref-other.ensures.reads;
      leads = c.deref-other.ensures.leads;
      in_range = c.deref-other.ensures.in_range;
      written = c.deref-other.ensures.written;
    })
    (g.C.Cells.seen c.meet_ends.new.cells) c.meet_ends.ensures.keeps c.args.pairs.now c.meet_ends.new.pairs (c.meet_ends.ensures.on is)

pub returns-clause-apart : goal.returns-clause-apart
returns-clause-apart g c = λ is.
    never_from g.C.Cells.program c.args.pair.left c.args.pair.right c.deref-one.result c.deref-other.result
    (g.C.Cells.seen c.args.cells.now) (g.C.Cells.seen c.deref-one.new.cells) (g.C.Cells.seen c.deref-other.new.cells)
    (record {
      reads = c.deref-one.ensures.reads;
      leads = c.deref-one.ensures.leads;
      in_range = c.deref-one.ensures.in_range;
      written = c.deref-one.ensures.written;
    })
    (record {
      reads = c.deref-other.ensures.reads;
      leads = c.deref-other.ensures.leads;
      in_range = c.deref-other.ensures.in_range;
      written = c.deref-other.ensures.written;
    })
    (g.C.Cells.seen c.meet_ends.new.cells) c.meet_ends.ensures.keeps (c.meet_ends.ensures.apart is)
