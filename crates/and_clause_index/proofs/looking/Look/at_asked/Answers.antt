use Rattle.std.proofs.Common.{sym, subst, ◌∙◌}
use Rattle.and_cells.specs.Ranges.{IsNodeInRange}
use Rattle.and_cells.proofs.Chains.{reads_more}
use Rattle.and_clause_index.proofs.Glimpses.{seen_before}
use Rattle.and_clause_index.proofs.looking.Look.at_asked.Goals as goal

pub asked_marks-second-requires-clause-node : goal.asked_marks-second-requires-clause-node
asked_marks-second-requires-clause-node g c =
    subst (λ n. IsNodeInRange g.C.Cells.program n c.args.node.0 c.args.base) (sym c.asked_marks-first.ensures.reads.words) c.requires.node

pub asked_mark-third-requires-clause-node : goal.asked_mark-third-requires-clause-node
asked_mark-third-requires-clause-node g c =
    subst (λ n. IsNodeInRange g.C.Cells.program n c.args.node.0 c.args.base)
    (sym (c.asked_marks-second.ensures.reads.words ∙ c.asked_marks-first.ensures.reads.words)) c.requires.node

pub asked_mark-fourth-requires-clause-node : goal.asked_mark-fourth-requires-clause-node
asked_mark-fourth-requires-clause-node g c =
    subst (λ n. IsNodeInRange g.C.Cells.program n c.args.node.0 c.args.base)
    (sym (c.asked_mark-third.ensures.reads.words ∙ c.asked_marks-second.ensures.reads.words ∙ c.asked_marks-first.ensures.reads.words))
    c.requires.node

pub returns-clause-grew : goal.returns-clause-grew
returns-clause-grew g c =
    let old = c.args.cells.now in
    let one = c.asked_marks-first.new.cells in
    let two = c.asked_marks-second.new.cells in
    let three = c.asked_mark-third.new.cells in
    let on = g.met.C.Cells.grew_on in
    let first = on old one two c.asked_marks-first.ensures.grew c.asked_marks-second.ensures.grew in
    on old three c.asked_mark-fourth.new.cells (on old two three first c.asked_mark-third.ensures.grew) c.asked_mark-fourth.ensures.grew

pub returns-clause-reads : goal.returns-clause-reads
returns-clause-reads g c =
    let old = g.C.Cells.seen c.args.cells.now in
    let one = g.C.Cells.seen c.asked_marks-first.new.cells in
    let two = g.C.Cells.seen c.asked_marks-second.new.cells in
    let three = g.C.Cells.seen c.asked_mark-third.new.cells in
    let first = reads_more old one two c.asked_marks-first.ensures.reads c.asked_marks-second.ensures.reads in
    reads_more old three (g.C.Cells.seen c.asked_mark-fourth.new.cells) (reads_more old two three first c.asked_mark-third.ensures.reads)
    c.asked_mark-fourth.ensures.reads

pub returns-clause-look : goal.returns-clause-look
returns-clause-look g c = λ row has s solves.
    let one = g.C.Cells.seen c.asked_marks-first.new.cells in
    let two = g.C.Cells.seen c.asked_marks-second.new.cells in
    let three = g.C.Cells.seen c.asked_mark-third.new.cells in
    let to_three = seen_before three (g.C.Cells.seen c.asked_mark-fourth.new.cells) row c.asked_mark-fourth.ensures.reads has in
    let to_two = seen_before two three row c.asked_mark-third.ensures.reads to_three in
    let to_one = seen_before one two row c.asked_marks-second.ensures.reads to_two in
    record {
      first = tt;
      print = record {
        first = c.asked_marks-first.ensures.tells row to_one s solves;
        second = c.asked_marks-second.ensures.tells row to_two s solves;
        third = c.asked_mark-third.ensures.tells row to_three s solves;
        fourth = c.asked_mark-fourth.ensures.tells row has s solves;
      };
    }
