use Rattle.std.proofs.Common.{◌∙◌, sym, subst}
use Rattle.and_cells.specs.Rows.{IsSound}
use Rattle.and_determinacy.proofs.TakenBack.{back_is}
use Rattle.and_determinacy.proofs.trying.Tools.fits.Goals as goal

pub take_back-requires : goal.take_back-requires
take_back-requires g c =
    let row = c.args.cells.now in
    let back = back_is row c.meets-fits.new.cells c.meets-fits.new.self.solver c.bound.result.now c.len-floor.result c.len-floor.ensures.value
    c.bound.ensures c.meets-fits.ensures.only_set in
    subst (IsSound g.N.Naming.program) (sym back) c.len-floor.ensures.sound

pub returns-clause-unchanged : goal.returns-clause-unchanged
returns-clause-unchanged g c =
    c.take_back.ensures
    ∙ back_is c.args.cells.now c.meets-fits.new.cells c.meets-fits.new.self.solver c.bound.result.now c.len-floor.result c.len-floor.ensures.value
    c.bound.ensures c.meets-fits.ensures.only_set
