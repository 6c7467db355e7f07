use Rattle.std.proofs.Common.{◌∙◌, ◌+◌, ◌<◌, ap, arith}
use Rattle.and_cells.proofs.References.{cells_behind}
use Rattle.and_unify.specs.declared.meeting.Tried.TheVariants.{Done}
use Rattle.and_unify.proofs.MeetingSteps.{both_followed, standing_left, standing_right, alike_on, free_on, structures_on, apart_on, behind_falls}
use Rattle.and_unify.proofs.meeting.meet.Goals as goal

pub loop-met-init : goal.loop-met-init
loop-met-init g c =
    let old = g.C.Cells.seen c.args.cells.now in
    let mid = g.C.Cells.seen c.deref-one.new.cells in
    let new = g.C.Cells.seen c.end_beside-other.new.cells in record {
      over = c.end_beside-other.ensures.over ∙ c.deref-one.ensures.over;
      grew = g.met.C.Cells.grew_on c.args.cells.now c.deref-one.new.cells c.end_beside-other.new.cells c.deref-one.ensures.grew c.end_beside-other.ensures.grew;
      standing = both_followed g.C.Cells.program c.args.left c.args.right c.deref-one.result c.end_beside-other.result old mid new
          (record {
            reads = c.deref-one.ensures.reads;
            leads = c.deref-one.ensures.leads;
            in_range = c.deref-one.ensures.in_range;
            written = c.deref-one.ensures.written;
          })
          (record {
            reads = c.end_beside-other.ensures.reads;
            leads = c.end_beside-other.ensures.leads;
            in_range = c.end_beside-other.ensures.in_range;
            written = c.end_beside-other.ensures.written;
          });
    }

pub returns-in-Done-clause-same : goal.returns-in-Done-clause-same
returns-in-Done-clause-same g c = λ is.
    alike_on g.C.Cells.program c.args.left c.args.right c.loop-met.one c.loop-met.other
    (g.C.Cells.seen c.args.cells.now) (g.C.Cells.seen c.loop-met.cells) (g.C.Cells.seen c.try_both.new.cells)
    c.loop-met.invariant.standing.lead (c.try_both.ensures.same (c.in-Done.is ∙ ap Done is))

pub returns-in-Done-clause-bound : goal.returns-in-Done-clause-bound
returns-in-Done-clause-bound g c = λ cell is.
    free_on g.C.Cells.program c.args.left c.args.right c.loop-met.one c.loop-met.other cell
    (g.C.Cells.seen c.args.cells.now) (g.C.Cells.seen c.loop-met.cells) (g.C.Cells.seen c.try_both.new.cells)
    c.loop-met.invariant.standing.lead (c.try_both.ensures.bound cell (c.in-Done.is ∙ ap Done is))

pub returns-in-Done-clause-structures : goal.returns-in-Done-clause-structures
returns-in-Done-clause-structures g c = λ one other is.
    structures_on g.C.Cells.program c.args.left c.args.right c.loop-met.one c.loop-met.other one other
    (g.C.Cells.seen c.args.cells.now) (g.C.Cells.seen c.loop-met.cells) (g.C.Cells.seen c.try_both.new.cells)
    c.loop-met.invariant.standing.lead (c.try_both.ensures.structures one other (c.in-Done.is ∙ ap Done is))

pub returns-in-Done-clause-apart : goal.returns-in-Done-clause-apart
returns-in-Done-clause-apart g c = λ one other is.
    apart_on g.C.Cells.program c.args.left c.args.right c.loop-met.one c.loop-met.other one other
    (g.C.Cells.seen c.args.cells.now) (g.C.Cells.seen c.loop-met.cells) (g.C.Cells.seen c.try_both.new.cells)
    c.loop-met.invariant.standing.lead (c.try_both.ensures.apart one other (c.in-Done.is ∙ ap Done is))

pub loop-met-smaller-in-LeftIs : goal.loop-met-smaller-in-LeftIs
loop-met-smaller-in-LeftIs g c =
    let falls : cells_behind c.in-LeftIs.set < cells_behind c.loop-met.one =
    behind_falls g.C.Cells.program c.loop-met.one c.in-LeftIs.set (g.C.Cells.seen c.loop-met.cells) (g.C.Cells.seen c.try_both.new.cells)
    (c.try_both.ensures.left_is c.in-LeftIs.set c.in-LeftIs.is) in
    let less : cells_behind c.in-LeftIs.set + cells_behind c.loop-met.other < cells_behind c.loop-met.one + cells_behind c.loop-met.other = omega arith in
    less

pub loop-met-preserved-in-LeftIs : goal.loop-met-preserved-in-LeftIs
loop-met-preserved-in-LeftIs g c = record {
  over = c.try_both.ensures.over ∙ c.loop-met.invariant.over;
  grew = g.met.C.Cells.grew_on c.args.cells.now c.loop-met.cells c.try_both.new.cells c.loop-met.invariant.grew c.try_both.ensures.grew;
  standing = standing_left g.C.Cells.program c.args.left c.args.right (g.C.Cells.seen c.args.cells.now) (g.C.Cells.seen c.loop-met.cells)
      (g.C.Cells.seen c.try_both.new.cells)
      c.loop-met.one c.loop-met.other c.in-LeftIs.set c.loop-met.invariant.standing (c.try_both.ensures.left_is c.in-LeftIs.set c.in-LeftIs.is);
}

pub loop-met-smaller : goal.loop-met-smaller
loop-met-smaller g c =
    let falls : cells_behind c.in-RightIs.set < cells_behind c.loop-met.other =
    behind_falls g.C.Cells.program c.loop-met.other c.in-RightIs.set (g.C.Cells.seen c.loop-met.cells) (g.C.Cells.seen c.try_both.new.cells)
    (c.try_both.ensures.right_is c.in-RightIs.set c.in-RightIs.is) in
    let less : cells_behind c.loop-met.one + cells_behind c.in-RightIs.set < cells_behind c.loop-met.one + cells_behind c.loop-met.other = omega arith in
    less

pub loop-met-preserved : goal.loop-met-preserved
loop-met-preserved g c = record {
  over = c.try_both.ensures.over ∙ c.loop-met.invariant.over;
  grew = g.met.C.Cells.grew_on c.args.cells.now c.loop-met.cells c.try_both.new.cells c.loop-met.invariant.grew c.try_both.ensures.grew;
  standing = standing_right g.C.Cells.program c.args.left c.args.right (g.C.Cells.seen c.args.cells.now) (g.C.Cells.seen c.loop-met.cells)
      (g.C.Cells.seen c.try_both.new.cells)
      c.loop-met.one c.loop-met.other c.in-RightIs.set c.loop-met.invariant.standing (c.try_both.ensures.right_is c.in-RightIs.set c.in-RightIs.is);
}

pub returns-in-Done-clause-grew : goal.returns-in-Done-clause-grew
returns-in-Done-clause-grew g c = g.met.C.Cells.grew_on c.args.cells.now c.loop-met.cells c.try_both.new.cells c.loop-met.invariant.grew c.try_both.ensures.grew
