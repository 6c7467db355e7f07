use Rattle.std.proofs.Common.{◌++◌, ◌∙◌, [], ap, sym}
use Rattle.std.proofs.lemmas.Result.{on_ok_weaker}
use Rattle.and_model.specs.Lines.{shown}
use Rattle.and_cells.specs.Parts.{named}
use Rattle.and_cells.specs.Ranges.{NamedProgram}
use Rattle.and_print.proofs.Chaining.{means_under}
use Rattle.and_print.proofs.terms.show_term.Goals as goal

pub returns : goal.returns
returns g c = λ t s.
    let m = means_under g.N.Naming.program (named c.args.loaded.now) c.args.cells.now c.args.term t c.requires.program c.requires.in_range s in
    on_ok_weaker c.write_term.result
    (λ w. (w.seen_now, w.written [] ∙ ap (λ (Q : NamedProgram). c.args.out.now ++ shown Q.program.names c.write_term.new.names t) (sym c.requires.program)))
    (c.write_term.ensures t m)
