use Rattle.std.proofs.Common.{sym}
use Rattle.and_unify.proofs.ClassLinks.{same_is}
use Rattle.and_unify.proofs.MeetingHeads.{differ_told, same_told}
use Rattle.and_unify.proofs.MeetingSteps.{alike_end, apart_compared, alike_compared, structures_compared}
use Rattle.and_unify.proofs.meeting.compare.Goals as goal

pub returns-then-eq-clause-same : goal.returns-then-eq-clause-same
returns-then-eq-clause-same g c = λ is.
    alike_end g.C.Cells.program c.args.one c.args.other (g.C.Cells.seen c.args.cells.now)
    (same_is c.args.one c.args.other (sym c.if-eq.ensures)) c.requires.ends.0

pub returns-then-ne-clause-apart : goal.returns-then-ne-clause-apart
returns-then-ne-clause-apart g c = λ p q is.
    let left = c.head_of-left_head.result in
    let right = c.head_of-right_head.result in
    apart_compared g.C.Cells.program c.args.one c.args.other p q left right (g.C.Cells.seen c.args.cells.now) (g.C.Cells.seen c.head_of-left_head.new.cells)
    (g.C.Cells.seen c.head_of-right_head.new.cells)
    (record {
      first_reads = c.head_of-left_head.ensures.reads;
      first = c.head_of-left_head.ensures.head;
      second_reads = c.head_of-right_head.ensures.reads;
      second = c.head_of-right_head.ensures.head;
    })
    (differ_told left right c.if-ne.ensures) (cc) (cc)

pub returns-in-Number-clause-same : goal.returns-in-Number-clause-same
returns-in-Number-clause-same g c = λ is.
    let left = c.head_of-left_head.result in
    let right = c.head_of-right_head.result in
    alike_compared g.C.Cells.program c.args.one c.args.other left right c.in-Number.field-0 (g.C.Cells.seen c.args.cells.now)
    (g.C.Cells.seen c.head_of-left_head.new.cells) (g.C.Cells.seen c.head_of-right_head.new.cells)
    (record {
      first_reads = c.head_of-left_head.ensures.reads;
      first = c.head_of-left_head.ensures.head;
      second_reads = c.head_of-right_head.ensures.reads;
      second = c.head_of-right_head.ensures.head;
    })
    (same_told left right c.if-ne.ensures) c.in-Number.is

pub returns-in-Name-clause-structures : goal.returns-in-Name-clause-structures
returns-in-Name-clause-structures g c = λ p q is.
    let left = c.head_of-left_head.result in
    let right = c.head_of-right_head.result in
    structures_compared g.C.Cells.program c.args.one c.args.other p q left right c.in-Name.name c.in-Name.count (g.C.Cells.seen c.args.cells.now)
    (g.C.Cells.seen c.head_of-left_head.new.cells) (g.C.Cells.seen c.head_of-right_head.new.cells)
    (record {
      first_reads = c.head_of-left_head.ensures.reads;
      first = c.head_of-left_head.ensures.head;
      second_reads = c.head_of-right_head.ensures.reads;
      second = c.head_of-right_head.ensures.head;
    })
    (same_told left right c.if-ne.ensures) c.in-Name.is (cc) (cc) c.requires.one_in_range c.requires.other_in_range
