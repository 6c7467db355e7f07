use Rattle.std.proofs.Common.{false, length, sym, subst}
use Rattle.and_model.specs.declared.reference.Ref.{Ref}
use Rattle.and_cells.specs.Ranges.{IsInRange}
use Rattle.and_cells.specs.Ends.{Ends}
use Rattle.and_heads.specs.Ending.{GoesOn}
use Rattle.and_heads.proofs.ending.beyond.Goals as goal

pub beyond_cell-requires : goal.beyond_cell-requires
beyond_cell-requires g c = record { in_row = subst (IsInRange g.N.Naming.program (length c.args.cells.now)) c.in-Cell.is c.requires.in_range }

pub beyond_structure-requires-clause-in_range : goal.beyond_structure-requires-clause-in_range
beyond_structure-requires-clause-in_range g c = subst (IsInRange g.N.Naming.program (length c.args.cells.now)) c.in-Node.is c.requires.in_range

pub returns-in-Cell-clause-ended : goal.returns-in-Cell-clause-ended
returns-in-Cell-clause-ended g c = λ is.
    subst (Ends g.N.Naming.program c.args.cells.now c.args.floor false) (sym c.in-Cell.is) (c.beyond_cell.ensures.ended is)

pub returns-in-Cell-clause-onward : goal.returns-in-Cell-clause-onward
returns-in-Cell-clause-onward g c = λ next is.
    subst (λ (r : Ref). GoesOn g.N.Naming.program c.args.cells.now c.args.floor r next) (sym c.in-Cell.is) (c.beyond_cell.ensures.onward next is)

pub returns-in-Node-clause-ended : goal.returns-in-Node-clause-ended
returns-in-Node-clause-ended g c = λ is.
    subst (Ends g.N.Naming.program c.args.cells.now c.args.floor false) (sym c.in-Node.is) (c.beyond_structure.ensures.ended is)

pub returns-in-Node-clause-onward : goal.returns-in-Node-clause-onward
returns-in-Node-clause-onward g c = λ next is.
    subst (λ (r : Ref). GoesOn g.N.Naming.program c.args.cells.now c.args.floor r next) (sym c.in-Node.is) (c.beyond_structure.ensures.onward next is)

pub returns-in-Number-clause-ended : goal.returns-in-Number-clause-ended
returns-in-Number-clause-ended g c = λ _.
    subst (Ends g.N.Naming.program c.args.cells.now c.args.floor false) (sym c.in-Number.is) (Ends.number c.in-Number.field-0)
