use Rattle.std.proofs.Common.{◌++◌, ◌∙◌, ap}
use Rattle.and_model.specs.Lines.{shown_name}
use Rattle.and_cells.specs.Parts.{named}
use Rattle.and_print.proofs.Joining.{pair_writes}
use Rattle.and_print.proofs.printer.Printer.write_pair.Goals as goal

pub returns : goal.returns
returns g c = λ a b m n.
    pair_writes (named c.args.self.now.loaded.now).program.names c.args.name.0 a b c.requires.other c.args.names.now c.write_term.new.names
    c.write_term-2.new.names c.args.out.now c.write_name.new.text
    c.append.new.self c.write_term.new.out c.append-2.new.self c.write_term-2.new.out c.append-3.new.self
    (c.in_ok-write_name.ensures ∙ ap (λ n. c.args.out.now ++ shown_name n) c.name.ensures) c.in_ok-append.ensures (c.in_ok-write_term.ensures a m)
    c.in_ok-append-2.ensures (c.in_ok-write_term-2.ensures b n) c.in_ok-append-3.ensures
