use Rattle.std.proofs.Common.{◌≡◌, subst}
use Rattle.std.proofs.lemmas.Result.{IfOk-at_ok}
use Rattle.and_reduction.specs.Runs.{IsWaiting, HasRun, CannotHold, WaitsFor}
use Rattle.and_reduction.specs.Sides.{RunsTo}
use Rattle.and_branch_parts.specs.Branches.{Held}
use Rattle.and_branch_parts.proofs.KeptOrigins.{ran_back}
use Rattle.and_branch.proofs.branch.Branch.run_next.Goals as goal

pub returns-clause-waits : goal.returns-clause-waits
returns-clause-waits g c = λ cell is.
    let P = g.N.Naming.program in
    subst (λ (b : Held). IsWaiting P b.row c.args.goal) c.self.view_is
    (IfOk-at_ok (RunsTo P c.self.inside.cells c.run_item.new.cells c.args.goal) {r = c.run_item.result} is c.run_item.ensures.ran).0

pub returns-clause-waits_for : goal.returns-clause-waits_for
returns-clause-waits_for g c = λ cell is.
    let P = g.N.Naming.program in
    subst (λ (b : Held). WaitsFor P b.row c.args.goal cell) c.self.view_is
    (IfOk-at_ok (RunsTo P c.self.inside.cells c.run_item.new.cells c.args.goal) {r = c.run_item.result} is c.run_item.ensures.ran).1

pub returns-clause-unchanged : goal.returns-clause-unchanged
returns-clause-unchanged g c = λ cell is.
    let P = g.N.Naming.program in
    subst (λ (b : Held). c.run_item.new.cells ≡ b.row) c.self.view_is
    (IfOk-at_ok (RunsTo P c.self.inside.cells c.run_item.new.cells c.args.goal) {r = c.run_item.result} is c.run_item.ensures.ran).2

pub returns-clause-done : goal.returns-clause-done
returns-clause-done g c = λ is.
    let P = g.N.Naming.program in
    subst (λ (b : Held). HasRun P b.row c.run_item.new.cells c.args.goal) c.self.view_is
    (IfOk-at_ok (RunsTo P c.self.inside.cells c.run_item.new.cells c.args.goal) {r = c.run_item.result} is c.run_item.ensures.ran)

pub returns-clause-fails : goal.returns-clause-fails
returns-clause-fails g c = λ is.
    let P = g.N.Naming.program in
    subst (λ (b : Held). CannotHold P b.row c.args.goal) c.self.view_is
    (IfOk-at_ok (RunsTo P c.self.inside.cells c.run_item.new.cells c.args.goal) {r = c.run_item.result} is c.run_item.ensures.ran)

pub returns-clause-back : goal.returns-clause-back
returns-clause-back g c = ran_back _ c.args.self.now c.self.view_is c.run_item.new.cells c.run_item.new.trail c.run_item.result c.run_item.ensures.noted
