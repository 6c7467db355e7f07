use Rattle.std.proofs.Common.{length, refl, sym, subst}
use Rattle.and_cells.specs.Ranges.{IsInRange}
use Rattle.and_cells.specs.Rows.{plain}
use Rattle.and_cells.specs.Seen.{IsWrittenIfNumber}
use Rattle.and_cells.proofs.Chains.{reads_nothing}
use Rattle.and_heads.proofs.Placing.{meets_placed}
use Rattle.and_heads.proofs.arguments.enter_argument.Goals as goal

pub enter_variable-requires-clause-in_range : goal.enter_variable-requires-clause-in_range
enter_variable-requires-clause-in_range g c = (
  subst (IsInRange g.N.Naming.program (length c.args.cells.now)) (sym c.resolve-from.ensures) c.requires.fits.0,
  subst (IsInRange g.N.Naming.program (length c.args.cells.now)) c.in-Cell.is c.requires.fits.1,
)

pub enter_variable-requires-clause-written : goal.enter_variable-requires-clause-written
enter_variable-requires-clause-written g c = subst (IsWrittenIfNumber (plain c.args.cells.now)) (sym c.resolve-from.ensures) c.requires.written

pub returns-in-Cell-clause-meets : goal.returns-in-Cell-clause-meets
returns-in-Cell-clause-meets g c =
    meets_placed g.N.Naming.program (plain c.args.cells.now) (plain c.enter_variable.new.cells) _ _ _ _ c.args.parts.now.items
    c.enter_variable.new.parts.items c.args.bound.now.items c.enter_variable.new.bound.items c.enter_variable.result c.resolve-from.ensures c.in-Cell.is
    c.enter_variable.ensures.meets

pub enter_structure-requires-clause-in_range : goal.enter_structure-requires-clause-in_range
enter_structure-requires-clause-in_range g c = (
  subst (IsInRange g.N.Naming.program (length c.args.cells.now)) (sym c.resolve-from-in-Node.ensures) c.requires.fits.0,
  subst (IsInRange g.N.Naming.program (length c.args.cells.now)) c.in-Node.is c.requires.fits.1,
)

pub enter_structure-requires-clause-written : goal.enter_structure-requires-clause-written
enter_structure-requires-clause-written g c =
    subst (IsWrittenIfNumber (plain c.args.cells.now)) (sym c.resolve-from-in-Node.ensures) c.requires.written

pub returns-in-Node-clause-meets : goal.returns-in-Node-clause-meets
returns-in-Node-clause-meets g c =
    meets_placed g.N.Naming.program (plain c.args.cells.now) (plain c.enter_structure.new.cells) _ _ _ _ c.args.parts.now.items
    c.enter_structure.new.parts.items c.args.bound.now.items c.enter_structure.new.bound.items c.enter_structure.result c.resolve-from-in-Node.ensures
    c.in-Node.is c.enter_structure.ensures.meets

pub returns-in_default-clause-meets : goal.returns-in_default-clause-meets
returns-in_default-clause-meets g c = (reads_nothing (plain c.args.cells.now), refl)
