use Rattle.and_cells.specs.Parts.{named}
use Rattle.and_cells.proofs.Chains.{reads_keeps, reads_more}
use Rattle.and_unify.proofs.MeetingHeads.{differ_told, same_told}
use Rattle.and_guards.proofs.Resolved.{falls_in}
use Rattle.and_shared_determinacy.proofs.Comparing.{heads_never_one, numbers_lead_on, of_one_shape, arguments_lead_on, follow_later}
use Rattle.and_shared_determinacy.proofs.Comparing.{follow_pairs_later, follow_arguments, list_as_named, shape_as_named}
use Rattle.and_shared_determinacy.proofs.matching.compare.Goals as goal

pub head_of-right-requires-clause-in_range : goal.head_of-right-requires-clause-in_range
head_of-right-requires-clause-in_range g c =
    let can = follow_later g.C.Cells.program (g.C.Cells.seen c.args.cells.now) (g.C.Cells.seen c.head_of-left.new.cells) c.args.other
    c.head_of-left.ensures.reads.keeps c.head_of-left.ensures.reads.words c.requires.other in
    can.0

pub head_of-right-requires-clause-written : goal.head_of-right-requires-clause-written
head_of-right-requires-clause-written g c =
    let can = follow_later g.C.Cells.program (g.C.Cells.seen c.args.cells.now) (g.C.Cells.seen c.head_of-left.new.cells) c.args.other
    c.head_of-left.ensures.reads.keeps c.head_of-left.ensures.reads.words c.requires.other in
    can.1

pub returns-then-ne-clause-keeps : goal.returns-then-ne-clause-keeps
returns-then-ne-clause-keeps g c =
    let old = g.C.Cells.seen c.args.cells.now in
    let mid = g.C.Cells.seen c.head_of-left.new.cells in
    let new = g.C.Cells.seen c.head_of-right.new.cells in
    reads_keeps old new (reads_more old mid new c.head_of-left.ensures.reads c.head_of-right.ensures.reads)

pub returns-then-ne-clause-grew : goal.returns-then-ne-clause-grew
returns-then-ne-clause-grew g c =
    g.met.C.Cells.grew_on c.args.cells.now c.head_of-left.new.cells c.head_of-right.new.cells c.head_of-left.ensures.grew c.head_of-right.ensures.grew

pub returns-then-ne-clause-apart : goal.returns-then-ne-clause-apart
returns-then-ne-clause-apart g c = λ is.
    let P = g.C.Cells.program in
    let left = c.head_of-left.result in
    let right = c.head_of-right.result in
    let fall = falls_in P c.args.loaded.now c.requires.program c.skeleton_is_of_the_program.ensures.skeleton.0 in
    heads_never_one P fall c.args.one c.args.other left right (g.C.Cells.seen c.args.cells.now) (g.C.Cells.seen c.head_of-left.new.cells)
    (g.C.Cells.seen c.head_of-right.new.cells)
    (record {
      first_reads = c.head_of-left.ensures.reads;
      first = c.head_of-left.ensures.head;
      second_reads = c.head_of-right.ensures.reads;
      second = c.head_of-right.ensures.head;
    })
    (differ_told left right c.if-ne.ensures)

pub returns-in-Number-clause-on : goal.returns-in-Number-clause-on
returns-in-Number-clause-on g c = λ is.
    let P = g.C.Cells.program in
    let fall = falls_in P c.args.loaded.now c.requires.program c.skeleton_is_of_the_program.ensures.skeleton.0 in
    numbers_lead_on P fall c.args.one c.args.other c.head_of-left.result c.head_of-right.result (g.C.Cells.seen c.args.cells.now)
    (g.C.Cells.seen c.head_of-left.new.cells) (g.C.Cells.seen c.head_of-right.new.cells)
    (record {
      first_reads = c.head_of-left.ensures.reads;
      first = c.head_of-left.ensures.head;
      second_reads = c.head_of-right.ensures.reads;
      second = c.head_of-right.ensures.head;
    })
    c.args.pairs.now

pub returns-in-Number-clause-pairs : goal.returns-in-Number-clause-pairs
returns-in-Number-clause-pairs g c = λ is.
    let old = g.C.Cells.seen c.args.cells.now in
    let mid = g.C.Cells.seen c.head_of-left.new.cells in
    let new = g.C.Cells.seen c.head_of-right.new.cells in
    let reads = reads_more old mid new c.head_of-left.ensures.reads c.head_of-right.ensures.reads in
    follow_pairs_later g.C.Cells.program old new c.args.pairs.now reads.keeps reads.words c.requires.pairs

pub descend-requires : goal.descend-requires
descend-requires g c =
    let P = g.C.Cells.program in
    let fall = falls_in P c.args.loaded.now c.requires.program c.skeleton_is_of_the_program.ensures.skeleton.0 in
    let left = c.head_of-left.result in
    let right = c.head_of-right.result in
    let old = g.C.Cells.seen c.args.cells.now in
    shape_as_named P (named c.args.loaded.now) old.words c.args.one c.args.other c.requires.program
    (of_one_shape P fall c.args.one c.args.other left right old (g.C.Cells.seen c.head_of-left.new.cells) (g.C.Cells.seen c.head_of-right.new.cells)
    (record {
      first_reads = c.head_of-left.ensures.reads;
      first = c.head_of-left.ensures.head;
      second_reads = c.head_of-right.ensures.reads;
      second = c.head_of-right.ensures.head;
    })
    c.in-Name.name c.in-Name.count c.in-Name.is (same_told left right c.if-ne.ensures) c.requires.one.0 c.requires.other.0)

pub returns-in-Name-clause-on : goal.returns-in-Name-clause-on
returns-in-Name-clause-on g c = λ is.
    let P = g.C.Cells.program in
    let fall = falls_in P c.args.loaded.now c.requires.program c.skeleton_is_of_the_program.ensures.skeleton.0 in
    let left = c.head_of-left.result in
    let right = c.head_of-right.result in
    arguments_lead_on P fall c.args.one c.args.other left right (g.C.Cells.seen c.args.cells.now) (g.C.Cells.seen c.head_of-left.new.cells)
    (g.C.Cells.seen c.head_of-right.new.cells)
    (record {
      first_reads = c.head_of-left.ensures.reads;
      first = c.head_of-left.ensures.head;
      second_reads = c.head_of-right.ensures.reads;
      second = c.head_of-right.ensures.head;
    })
    c.in-Name.name c.in-Name.count c.in-Name.is (same_told left right c.if-ne.ensures) c.args.pairs.now c.descend.new.pairs
    (list_as_named P (named c.args.loaded.now) c.args.pairs.now c.descend.new.pairs c.args.one c.args.other c.requires.program (c.descend.ensures.on is))

pub returns-in-Name-clause-pairs : goal.returns-in-Name-clause-pairs
returns-in-Name-clause-pairs g c = λ is.
    let P = g.C.Cells.program in
    let fall = falls_in P c.args.loaded.now c.requires.program c.skeleton_is_of_the_program.ensures.skeleton.0 in
    let old = g.C.Cells.seen c.args.cells.now in
    let mid = g.C.Cells.seen c.head_of-left.new.cells in
    let new = g.C.Cells.seen c.head_of-right.new.cells in
    let reads = reads_more old mid new c.head_of-left.ensures.reads c.head_of-right.ensures.reads in
    follow_arguments P fall new c.args.one c.args.other c.args.pairs.now c.descend.new.pairs
    (follow_later P old new c.args.one reads.keeps reads.words c.requires.one) (follow_later P old new c.args.other reads.keeps reads.words c.requires.other)
    (list_as_named P (named c.args.loaded.now) c.args.pairs.now c.descend.new.pairs c.args.one c.args.other c.requires.program (c.descend.ensures.on is))
    (follow_pairs_later P old new c.args.pairs.now reads.keeps reads.words c.requires.pairs)
