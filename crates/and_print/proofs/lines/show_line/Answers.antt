use Rattle.std.proofs.Common.{◌≡◌, length, sym, subst}
use Rattle.std.specs.Prelude.{All}
use Rattle.and_model.specs.Lines.{line}
use Rattle.and_cells.specs.Ranges.{NamedProgram, IsGoalInRange}
use Rattle.and_cells.specs.Parts.{named}
use Rattle.and_print.specs.Given.{Given}
use Rattle.and_print.proofs.Lining.{terms_waiting, waiting_mean, line_written}
use Rattle.and_print.proofs.lines.show_line.Goals as goal

pub write_values-requires-clause-gives : goal.write_values-requires-clause-gives
write_values-requires-clause-gives g c =
    let given = subst (λ (Q : NamedProgram). Given Q c.args.cells.now c.args.waiting.now) c.requires.program c.requires.given in
    (given.terms, given.query)

pub write_waiting-requires-clause-means : goal.write_waiting-requires-clause-means
write_waiting-requires-clause-means g c =
    let P = named c.args.loaded.now in
    let given = subst (λ (Q : NamedProgram). Given Q c.args.cells.now c.args.waiting.now) c.requires.program c.requires.given in
    let fits = subst (λ (Q : NamedProgram). All (IsGoalInRange Q (length c.args.cells.now)) c.args.waiting.now) c.requires.program c.requires.in_range in
    (terms_waiting given.terms given.waits, waiting_mean P c.args.cells.now c.args.waiting.now given fits)

pub returns : goal.returns
returns g c =
    let P = named c.args.loaded.now in
    let fits = subst (λ (Q : NamedProgram). All (IsGoalInRange Q (length c.args.cells.now)) c.args.waiting.now) c.requires.program c.requires.in_range in
    subst (λ (Q : NamedProgram). (given : Given Q c.args.cells.now c.args.waiting.now)
    → c.write_waiting.new.out ≡ line Q.program given.terms given.waits) (sym c.requires.program)
    (λ given. line_written P.program given.terms given.waits c.new-names.result c.write_values.new.names c.write_waiting.new.names c.new-out.result
    c.write_values.new.out c.write_waiting.new.out c.new-names.ensures c.new-out.ensures
    (c.in_ok-write_values.ensures given.terms given.query)
    (c.in_ok-write_waiting.ensures (terms_waiting given.terms given.waits) (waiting_mean P c.args.cells.now c.args.waiting.now given fits)))
