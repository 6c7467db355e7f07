use Rattle.std.proofs.lemmas.Result.{IfOk-weaker}
use Rattle.and_cells.specs.Parts.{named}
use Rattle.and_print.specs.Tasks.{tasks_left}
use Rattle.and_print.proofs.Doing.{nothing_begun, arguments_begun}
use Rattle.and_print.proofs.printer.Printer.write_arguments.Goals as goal

pub returns-in_default : goal.returns-in_default
returns-in_default g c = λ ts m.
    nothing_begun (named c.args.self.now.loaded.now) c.args.self.now.cells.now ts c.args.names.now c.args.out.now (c.in_default.ensures ts m)

pub write_from-requires-clause-first : goal.write_from-requires-clause-first
write_from-requires-clause-first g c =
    let (ts, m) = c.requires.means in
    let s = c.in-Some.ensures ts m in
    (s.term, s.first_means)

pub write_from-requires-clause-rest : goal.write_from-requires-clause-rest
write_from-requires-clause-rest g c =
    let (ts, m) = c.requires.means in
    let s = c.in-Some.ensures ts m in
    (s.terms, s.rest_means)

pub returns : goal.returns
returns g c = λ ts m.
    let s = c.in-Some.ensures ts m in
    IfOk-weaker c.write_from.result _ _
    (λ left b. arguments_begun (named c.args.self.now.loaded.now) c.args.self.now.cells.now c.in-Some.first c.in-Some.rest ts s c.args.names.now
    c.write_from.new.names c.args.out.now c.append.new.self c.write_from.new.out (tasks_left left) c.in_ok-append.ensures b)
    (c.write_from.ensures s.term s.first_means s.terms s.rest_means)
