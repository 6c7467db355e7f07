use Rattle.std.proofs.Common.{◌<◌, refl, ◌∙◌, subst, inr}
use Rattle.and_cells.proofs.Chains.{reads_nothing, reads_more, leads_later, leads_on, written_since_known, held_in_range, or_half}
use Rattle.and_model.specs.declared.reference.Ref.TheVariants.{Cell}
use Rattle.and_cells.specs.Ranges.{CanHold, IsInRangeOrHalf}
use Rattle.and_cells.specs.Seen.{LeadsTo, here}
use Rattle.and_cells.proofs.chain.deref.Goals as goal

pub loop-at-init : goal.loop-at-init
loop-at-init g c = record {
  over = refl;
  grew = g.met.C.Cells.grew_nothing c.args.cells.now;
  reads = reads_nothing (g.C.Cells.seen c.args.cells.now);
  leads = here c.args.from;
  in_range = or_half g.C.Cells.program (g.C.Cells.seen c.args.cells.now).words c.args.from c.requires.in_range;
  written = c.requires.written;
}

pub loop-at-preserved : goal.loop-at-preserved
loop-at-preserved g c =
    let old = g.C.Cells.seen c.args.cells.now in
    let mid = g.C.Cells.seen c.loop-at.cells in
    let new = g.C.Cells.seen c.look.new.self in
    let i = c.loop-at.invariant in
    let finds = c.look.ensures.found c.in_default-look.not-Free in
    let reads = c.look.ensures.only_reads in
    let knows = (finds.adds c.in-Cell.cell c.look.result).1 (inr (refl, refl)) in
    let below : c.in-Cell.cell < old.words = subst (IsInRangeOrHalf g.C.Cells.program old.words) c.in-Cell.is i.in_range in record {
      over = c.look.ensures.over ∙ i.over;
      grew = g.met.C.Cells.grew_on c.args.cells.now c.loop-at.cells c.look.new.self i.grew c.look.ensures.grew;
      reads = reads_more old mid new i.reads reads;
      leads = leads_on new c.args.from c.in-Cell.cell c.look.result
          (leads_later mid new c.args.from (Cell c.in-Cell.cell) reads.keeps (subst (LeadsTo mid c.args.from) c.in-Cell.is i.leads)) knows;
      in_range = held_in_range g.C.Cells.program old.words c.in-Cell.cell c.look.result below finds.is_set
          (subst (λ n. CanHold g.C.Cells.program n c.in-Cell.cell c.look.result) i.reads.words finds.fits);
      written = written_since_known new c.in-Cell.cell c.look.result knows;
    }

pub returns-in-Free-clause-leads : goal.returns-in-Free-clause-leads
returns-in-Free-clause-leads g c =
    let mid = g.C.Cells.seen c.loop-at.cells in
    let new = g.C.Cells.seen c.look.new.self in
    leads_later mid new c.args.from (Cell c.in-Cell.cell) c.look.ensures.only_reads.keeps
    (subst (LeadsTo mid c.args.from) c.in-Cell.is c.loop-at.invariant.leads)

pub returns-in-Free-clause-reads : goal.returns-in-Free-clause-reads
returns-in-Free-clause-reads g c =
    reads_more (g.C.Cells.seen c.args.cells.now) (g.C.Cells.seen c.loop-at.cells) (g.C.Cells.seen c.look.new.self) c.loop-at.invariant.reads
    c.look.ensures.only_reads
