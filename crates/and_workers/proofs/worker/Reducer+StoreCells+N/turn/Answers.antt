use Rattle.std.proofs.Common.{List, [], subst, sym, ◌∙◌}
use Rattle.and_handed.specs.declared.told.HandedOn.{HandedOn}
use Rattle.and_workers.specs.Waiting.{Waiting}
use Rattle.and_workers.specs.AtWork.{IsAtWork}
use Rattle.and_workers.proofs.AtWork.{work_is_handed_on}
use Rattle.and_workers.proofs.Working.{failed_at_work}
use Rattle.and_workers.proofs.worker.Reducer+StoreCells+N.turn.Goals as goal

pub returns-then-failed-clause-turned : goal.returns-then-failed-clause-turned
returns-then-failed-clause-turned g c =
    let P = g.N.Naming.program in
    let told = c.args.self.now.told in
    let waiting = c.args.self.now.suspended in
    let q = c.has_failed-cells.result.0.pass in
    work_is_handed_on P told waiting q
    (failed_at_work P told [] waiting c.has_failed-cells.result.1 c.args.cells.pass q (c.has_failed-cells.ensures.same.0
    ∙ sym c.requires.store) c.has_failed-cells.ensures.found
    c.requires.at_work)

pub look-requires-clause-at_work : goal.look-requires-clause-at_work
look-requires-clause-at_work g c κs within =
    let P = g.N.Naming.program in
    let told = c.args.self.now.told in
    let waiting = c.args.self.now.suspended in
    let q = c.has_failed-cells.result.0.pass in
    subst (λ (t : HandedOn). IsAtWork P t [] c.take_own.new.self.suspended q) (sym c.take_own.ensures.0)
    (subst (λ (ws : List Waiting). IsAtWork P told [] ws q) (sym c.take_own.ensures.1)
    (failed_at_work P told [] waiting c.has_failed-cells.result.1 c.args.cells.pass q (c.has_failed-cells.ensures.same.0
    ∙ sym c.requires.store) c.has_failed-cells.ensures.found
    c.requires.at_work))

pub look_at_woken-requires-clause-at_work : goal.look_at_woken-requires-clause-at_work
look_at_woken-requires-clause-at_work g c κs within =
    let P = g.N.Naming.program in
    let told = c.args.self.now.told in
    let waiting = c.args.self.now.suspended in
    let q = c.has_failed-cells.result.0.pass in
    subst (λ (t : HandedOn). IsAtWork P t [] c.take_own.new.self.suspended q) (sym c.take_own.ensures.0)
    (subst (λ (ws : List Waiting). IsAtWork P told [] ws q) (sym c.take_own.ensures.1)
    (failed_at_work P told [] waiting c.has_failed-cells.result.1 c.args.cells.pass q (c.has_failed-cells.ensures.same.0
    ∙ sym c.requires.store) c.has_failed-cells.ensures.found
    c.requires.at_work))
