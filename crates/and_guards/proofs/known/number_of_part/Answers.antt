use Rattle.std.proofs.Common.{sym, subst}
use Rattle.std.specs.Prelude.{IfSome}
use Rattle.and_model.specs.declared.reference.Ref.{Ref}
use Rattle.and_model.specs.declared.reference.Ref.TheVariants.{Node}
use Rattle.and_cells.specs.Ranges.{NamedProgram}
use Rattle.and_cells.specs.Rows.{plain}
use Rattle.and_arith.specs.Glances.{IsNumber}
use Rattle.and_guards.proofs.known.number_of_part.Goals as goal

pub returns-in-Cell : goal.returns-in-Cell
returns-in-Cell g c =
    subst (λ (r : Ref). IfSome c.number_in_cell.result (IsNumber g.N.Naming.program (plain c.args.cells.now) r)) (sym c.in-Cell.is) c.number_in_cell.ensures

pub returns-in-Node : goal.returns-in-Node
returns-in-Node g c =
    let row = c.args.cells.now in
    subst (λ (r : Ref). IfSome c.literal.result (IsNumber g.N.Naming.program (plain row) r)) (sym c.in-Node.is)
    (subst (λ (Q : NamedProgram). IfSome c.literal.result (IsNumber Q (plain row) (Node c.in-Node.node c.in-Node.base))) (sym c.requires.program)
    (c.literal.ensures row c.in-Node.base))
