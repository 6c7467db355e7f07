use Rattle.std.proofs.lemmas.Result.{IfOk-at_ok}
use Rattle.and_reduction.specs.Sides.{RunsTo}
use Rattle.and_reduction.proofs.running.run.Goals as goal

pub returns-clause-waits : goal.returns-clause-waits
returns-clause-waits g c = λ cell e.
    (IfOk-at_ok (RunsTo g.N.Naming.program c.args.cells.now c.run_item.new.cells c.args.goal) {r = c.run_item.result} e c.run_item.ensures.ran).0

pub returns-clause-waits_for : goal.returns-clause-waits_for
returns-clause-waits_for g c = λ cell e.
    (IfOk-at_ok (RunsTo g.N.Naming.program c.args.cells.now c.run_item.new.cells c.args.goal) {r = c.run_item.result} e c.run_item.ensures.ran).1

pub returns-clause-unchanged : goal.returns-clause-unchanged
returns-clause-unchanged g c = λ cell e.
    (IfOk-at_ok (RunsTo g.N.Naming.program c.args.cells.now c.run_item.new.cells c.args.goal) {r = c.run_item.result} e c.run_item.ensures.ran).2

pub returns-clause-done : goal.returns-clause-done
returns-clause-done g c = λ e.
    IfOk-at_ok (RunsTo g.N.Naming.program c.args.cells.now c.run_item.new.cells c.args.goal) {r = c.run_item.result} e c.run_item.ensures.ran

pub returns-clause-fails : goal.returns-clause-fails
returns-clause-fails g c = λ e.
    IfOk-at_ok (RunsTo g.N.Naming.program c.args.cells.now c.run_item.new.cells c.args.goal) {r = c.run_item.result} e c.run_item.ensures.ran
