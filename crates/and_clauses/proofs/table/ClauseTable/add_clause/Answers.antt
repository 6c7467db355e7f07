use Rattle.std.proofs.Common.{arith}
use Rattle.and_drafts.specs.Drafts.{draft_of}
use Rattle.and_clauses.specs.Views.{table_of}
use Rattle.and_syntax.specs.Tables.{empty}
use Rattle.and_clauses.specs.Adds.{with_all}
use Rattle.and_clauses.proofs.Adding.{one_finished, number_fits}
use Rattle.and_clauses.proofs.table.ClauseTable.add_clause.Goals as goal

pub invariant_of-self : goal.invariant_of-self
invariant_of-self c =
    let one = one_finished (draft_of c.args.draft.now).finished c.requires in
    record { kept = (c.in-Ok.ensures.added c.args.self.now.query one.0 c.args.self.now.kept one.1).2 }

pub overflow_cast-result : goal.overflow_cast-result
overflow_cast-result c =
    let one = one_finished (draft_of c.args.draft.now).finished c.requires in
    let made = c.in-Ok.ensures.added c.args.self.now.query one.0 c.args.self.now.kept one.1 in
    let fits = number_fits (table_of c.args.self.now) (with_all empty c.add_clause.new.added.items) one.0 c.args.draft.now.line c.args.self.now.used.numbers
    c.in-Ok.used.numbers c.args.self.now.kept.all_numbers made.1 made.2.all_numbers made.2.few_clauses in
    omega (arith, fits)

pub returns-in-Ok-clause-ok : goal.returns-in-Ok-clause-ok
returns-in-Ok-clause-ok c = λ w one.
    let made = c.in-Ok.ensures.added c.args.self.now.query w c.args.self.now.kept one in
    (made.0, made.1, omega (arith, c.args.self.now.kept.all_numbers))

pub returns-in-Err-clause-fault : goal.returns-in-Err-clause-fault
returns-in-Err-clause-fault c = λ w one. c.in-Err.ensures.fault c.args.self.now.query c.args.self.now.kept w one
