use Rattle.std.proofs.Common.{rules}
use Rattle.std.specs.Prelude.{FitsSigned}
use Rattle.std.specs.Int.{w64}
use Rattle.std.proofs.lemmas.Int.{ints, to_z-of_z}
use Rattle.and_cells.specs.Parts.{named}
use Rattle.and_print.proofs.Parting.{number_root, compound_root}
use Rattle.and_print.proofs.printer.Printer.structure.Goals as goal

pub returns-in-Number : goal.returns-in-Number
returns-in-Number g c = λ t m.
    let fits : FitsSigned w64 c.in-Number.number = search (rules, ints) in
    rw to_z-of_z (number_root (named c.args.self.now.loaded.now) c.args.self.now.cells.now c.args.node c.args.base c.in-Number.number t m
    c.in-Number.ensures.term)

pub returns-in-Compound : goal.returns-in-Compound
returns-in-Compound g c = λ t m. compound_root (named c.args.self.now.loaded.now) c.args.self.now.cells.now c.args.node c.args.base c.in-Compound.name.0
    c.in-Compound.count t m c.in-Compound.ensures.term c.in-Compound.ensures.count
