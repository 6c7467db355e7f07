use Rattle.and_branch_parts.specs.Forking.{fits_in}
use Rattle.and_branch_parts.proofs.CandidatesParted.{fitting_more, heavy_more}
use Rattle.and_branch_parts.proofs.forking.part.Goals as goal

pub loop-place-preserved : goal.loop-place-preserved
loop-place-preserved g c =
    let p = fits_in g.N.Naming.program c.args.limit c.args.cells.now in record {
      fitting = fitting_more p c.args.clauses.now c.loop-place.place c.at-clause.result.now c.loop-place.parted.fitting
          c.add.new.self.fitting
          c.fits-passes.result c.at-clause.ensures c.fits-passes.ensures c.loop-place.invariant.fitting c.in_ok-add.ensures.fitting;
      heavy = heavy_more p c.args.clauses.now c.loop-place.place c.at-clause.result.now c.loop-place.parted.heavy c.add.new.self.heavy
          c.fits-passes.result c.at-clause.ensures c.fits-passes.ensures c.loop-place.invariant.heavy c.in_ok-add.ensures.heavy;
    }
