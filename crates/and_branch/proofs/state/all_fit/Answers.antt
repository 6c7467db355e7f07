use Rattle.std.proofs.Common.{◌≡◌, ◌∙◌, true, sym, rules}
use Rattle.and_branch_parts.specs.Forking.{fits_in}
use Rattle.and_branch.proofs.AllFitting.{fitting_still, none_still}
use Rattle.and_branch.proofs.state.all_fit.Goals as goal

pub loop-place-preserved : goal.loop-place-preserved
loop-place-preserved g c =
    let p = fits_in g.N.Naming.program c.args.limit c.args.cells.now in
    let yes : c.fits-passes.result ≡ true = search rules in
    let passes = sym yes ∙ c.fits-passes.ensures in record {
      fitting = fitting_still p c.args.clauses.now c.loop-place.place c.at-clause.result.now c.at-clause.ensures passes
          c.loop-place.invariant.fitting;
      heavy = none_still p c.args.clauses.now c.loop-place.place c.at-clause.result.now c.at-clause.ensures passes
          c.loop-place.invariant.heavy;
    }
