use Rattle.std.proofs.Common.{rules, ℤ, FitsSigned, w64, sym, subst}
use Rattle.std.proofs.lemmas.Int.{ints, to_z-of_z}
use Rattle.and_model.specs.declared.reference.Ref.{Ref}
use Rattle.and_cells.specs.Ranges.{NamedProgram}
use Rattle.and_cells.specs.Parts.{named}
use Rattle.and_arith.specs.Glances.{IsTold}
use Rattle.and_arith.proofs.Telling.{pair_told}
use Rattle.and_arith.proofs.glancing.told_at.Goals as goal

pub returns-in-Cell : goal.returns-in-Cell
returns-in-Cell g c =
    subst (λ (r : Ref). IsTold g.N.Naming.program c.args.cells.now r c.told_by_cell.result) (sym c.in-Cell.is) c.told_by_cell.ensures

pub returns-in-Number : goal.returns-in-Number
returns-in-Number g c =
    let row = c.args.cells.now in
    let z : ℤ = c.held_number.result in
    let fits : FitsSigned w64 z = search (rules, ints) in
    pair_told g.N.Naming.program row c.in-Number.pair c.args.end z _ c.held_number.ensures.sound c.in-Number.is c.requires.written fits
    (to_z-of_z w64 z fits) c.held_number.ensures.value

pub returns-in-Node : goal.returns-in-Node
returns-in-Node g c =
    let row = c.args.cells.now in
    let told = c.told_by_literal.result in
    subst (λ (Q : NamedProgram). IsTold Q row c.args.end told) (sym c.requires.program)
    (subst (λ (r : Ref). IsTold (named c.args.loaded.now) row r told) (sym c.in-Node.is) (c.told_by_literal.ensures row c.in-Node.base))
