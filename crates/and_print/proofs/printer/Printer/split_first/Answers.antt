use Rattle.std.proofs.Common.{refl}
use Rattle.and_cells.specs.Parts.{named}
use Rattle.and_print.proofs.Parting.{arguments_end, arguments_split}
use Rattle.and_print.proofs.printer.Printer.split_first.Goals as goal

pub returns-then-arguments : goal.returns-then-arguments
returns-then-arguments g c = λ ts m. arguments_end (named c.args.self.now.loaded.now) c.args.self.now.cells.now c.args.arguments ts c.if-arguments.true m

pub returns : goal.returns
returns g c = λ ts m.
    arguments_split (named c.args.self.now.loaded.now) c.args.self.now.cells.now c.args.arguments ts m c.argument-argument.result c.if-arguments.false
    c.argument-argument.ensures.term c.argument-argument.ensures.below _ _ c.resolve-first.ensures refl
