use Rattle.std.proofs.Common.{sym, subst, ◌∙◌}
use Rattle.and_cells.specs.Ranges.{IsNodeInRange}
use Rattle.and_cells.proofs.Chains.{reads_more}
use Rattle.and_clause_index.proofs.Glimpses.{seen_before}
use Rattle.and_clause_index.proofs.looking.Look.at_all.Goals as goal

pub argument_glimpse-second-requires-clause-node : goal.argument_glimpse-second-requires-clause-node
argument_glimpse-second-requires-clause-node g c =
    subst (λ n. IsNodeInRange g.C.Cells.program n c.args.node.0 c.args.base) (sym c.argument_glimpse-first.ensures.reads.words) c.requires.node

pub known_mark-third-requires-clause-node : goal.known_mark-third-requires-clause-node
known_mark-third-requires-clause-node g c =
    subst (λ n. IsNodeInRange g.C.Cells.program n c.args.node.0 c.args.base)
    (sym (c.argument_glimpse-second.ensures.reads.words ∙ c.argument_glimpse-first.ensures.reads.words)) c.requires.node

pub known_mark-fourth-requires-clause-node : goal.known_mark-fourth-requires-clause-node
known_mark-fourth-requires-clause-node g c =
    subst (λ n. IsNodeInRange g.C.Cells.program n c.args.node.0 c.args.base)
    (sym (c.known_mark-third.ensures.reads.words ∙ c.argument_glimpse-second.ensures.reads.words ∙ c.argument_glimpse-first.ensures.reads.words))
    c.requires.node

pub returns-clause-grew : goal.returns-clause-grew
returns-clause-grew g c =
    let old = c.args.cells.now in
    let one = c.argument_glimpse-first.new.cells in
    let two = c.argument_glimpse-second.new.cells in
    let three = c.known_mark-third.new.cells in
    let on = g.met.C.Cells.grew_on in
    let first = on old one two c.argument_glimpse-first.ensures.grew c.argument_glimpse-second.ensures.grew in
    on old three c.known_mark-fourth.new.cells (on old two three first c.known_mark-third.ensures.grew) c.known_mark-fourth.ensures.grew

pub returns-clause-reads : goal.returns-clause-reads
returns-clause-reads g c =
    let old = g.C.Cells.seen c.args.cells.now in
    let one = g.C.Cells.seen c.argument_glimpse-first.new.cells in
    let two = g.C.Cells.seen c.argument_glimpse-second.new.cells in
    let three = g.C.Cells.seen c.known_mark-third.new.cells in
    let first = reads_more old one two c.argument_glimpse-first.ensures.reads c.argument_glimpse-second.ensures.reads in
    reads_more old three (g.C.Cells.seen c.known_mark-fourth.new.cells) (reads_more old two three first c.known_mark-third.ensures.reads)
    c.known_mark-fourth.ensures.reads

pub returns-clause-look : goal.returns-clause-look
returns-clause-look g c = λ row has s solves.
    let one = g.C.Cells.seen c.argument_glimpse-first.new.cells in
    let two = g.C.Cells.seen c.argument_glimpse-second.new.cells in
    let three = g.C.Cells.seen c.known_mark-third.new.cells in
    let to_three = seen_before three (g.C.Cells.seen c.known_mark-fourth.new.cells) row c.known_mark-fourth.ensures.reads has in
    let to_two = seen_before two three row c.known_mark-third.ensures.reads to_three in
    let to_one = seen_before one two row c.argument_glimpse-second.ensures.reads to_two in
    let first = c.argument_glimpse-first.ensures.glimpse row to_one s solves in
    let second = c.argument_glimpse-second.ensures.glimpse row to_two s solves in
    record {
      first = first.kind;
      print = record {
        first = first.marks;
        second = second.marks;
        third = c.known_mark-third.ensures.tells row to_three s solves;
        fourth = c.known_mark-fourth.ensures.tells row has s solves;
      };
    }
