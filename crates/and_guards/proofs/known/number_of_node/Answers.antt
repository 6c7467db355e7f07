use Rattle.std.proofs.Common.{rules, ℤ, FitsSigned, w64, refl}
use Rattle.std.proofs.lemmas.Int.{ints, to_z-of_z}
use Rattle.and_model.specs.declared.reference.Ref.TheVariants.{Node}
use Rattle.and_cells.specs.Parts.{named}
use Rattle.and_arith.proofs.Telling.{literal_told}
use Rattle.and_guards.proofs.known.number_of_node.Goals as goal

pub returns-in-Number : goal.returns-in-Number
returns-in-Number g c =
    let z : ℤ = c.in-Number.number in
    let fits : FitsSigned w64 z = search (rules, ints) in
    literal_told g.N.Naming.program (named c.args.loaded.now) c.args.cells.now c.args.node c.args.base (Node c.args.node c.args.base) z _
    c.requires.program refl fits (to_z-of_z w64 z fits) c.in-Number.ensures.shape
