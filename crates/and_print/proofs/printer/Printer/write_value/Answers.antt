use Rattle.std.proofs.Common.{codes}
use Rattle.std.proofs.lemmas.Result.{on_ok_weaker}
use Rattle.and_model.specs.Terms.{variables_of}
use Rattle.and_model.specs.Lines.{shown}
use Rattle.and_cells.specs.Parts.{named}
use Rattle.and_print.proofs.Joining.{value_writes}
use Rattle.and_print.proofs.printer.Printer.write_value.Goals as goal

pub returns : goal.returns
returns g c = λ t m.
    on_ok_weaker c.write_term.result
    (value_writes (variables_of t) (λ vs. shown (named c.args.self.now.loaded.now).program.names vs t) c.args.names.now c.write_term.new.names c.args.out.now
    c.append.new.self c.append-2.new.self c.write_term.new.out
    c.args.name.now (codes " = ") c.in_ok-append.ensures c.in_ok-append-2.ensures)
    (c.write_term.ensures t m)
