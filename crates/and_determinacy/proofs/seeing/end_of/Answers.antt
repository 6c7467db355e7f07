use Rattle.std.proofs.Common.{◌<◌, sym, subst, length}
use Rattle.and_model.specs.declared.reference.Ref.{Ref}
use Rattle.and_cells.specs.Ranges.{CanHold, IsInRangeOrHalf}
use Rattle.and_cells.specs.Rows.{plain}
use Rattle.and_cells.specs.Seen.{LeadsTo, here, IsSetTo}
use Rattle.and_cells.proofs.Chains.{leads_on, held_in_range, or_half}
use Rattle.and_cells.proofs.References.{cells_behind, held_behind}
use Rattle.and_determinacy.proofs.seeing.end_of.Goals as goal

pub loop-at-init : goal.loop-at-init
loop-at-init g c = record {
  leads = here c.args.from;
  in_range = or_half g.N.Naming.program (length c.args.cells.now) c.args.from c.requires.in_range;
}

pub loop-at-smaller : goal.loop-at-smaller
loop-at-smaller g c =
    let row = c.args.cells.now in
    let fits = subst (CanHold g.N.Naming.program (length row) c.in-Cell.cell) (sym c.word.ensures.value) (c.word.ensures.sound.fits c.in-Cell.cell) in
    subst (λ (r : Ref). cells_behind c.word.result < cells_behind r) (sym c.in-Cell.is)
    (held_behind g.N.Naming.program (length row) c.in-Cell.cell c.word.result fits)

pub loop-at-preserved : goal.loop-at-preserved
loop-at-preserved g c =
    let row = c.args.cells.now in
    let i = c.loop-at.invariant in
    let knows : IsSetTo row c.in-Cell.cell c.word.result = (sym c.word.ensures.value, c.in_default-word.not-Free) in
    let fits = subst (CanHold g.N.Naming.program (length row) c.in-Cell.cell) (sym c.word.ensures.value) (c.word.ensures.sound.fits c.in-Cell.cell) in
    let below : c.in-Cell.cell < length row = subst (IsInRangeOrHalf g.N.Naming.program (length row)) c.in-Cell.is i.in_range in record {
      leads = leads_on (plain row) c.args.from c.in-Cell.cell c.word.result (subst (LeadsTo (plain row) c.args.from) c.in-Cell.is i.leads) knows;
      in_range = held_in_range g.N.Naming.program (length row) c.in-Cell.cell c.word.result below c.in_default-word.not-Free fits;
    }
