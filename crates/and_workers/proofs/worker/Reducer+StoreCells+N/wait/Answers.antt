use Rattle.std.proofs.Common.{sym, ◌∙◌, []}
use Rattle.and_workers.proofs.Working.{hung_at_work, missed_at_work, found_at_work, at_work_also}
use Rattle.and_model.specs.Store.{occupied}
use Rattle.and_workers.proofs.worker.Reducer+StoreCells+N.wait.Goals as goal

pub keep-requires-in-Occupied-clause-at_work : goal.keep-requires-in-Occupied-clause-at_work
keep-requires-in-Occupied-clause-at_work g c =
    let found = c.hang-cells.ensures.occupied c.in-Occupied.goal c.in-Occupied.is in
    missed_at_work g.N.Naming.program c.args.self.now.told [] c.args.self.now.suspended c.args.cell
    (occupied found.1.waiter) c.args.cells.pass c.hang-cells.result.0.pass
    (c.hang-cells.ensures.same.0 ∙ sym c.requires.store) found.1.misses c.requires.at_work

pub returns-in-Done-clause-turned : goal.returns-in-Done-clause-turned
returns-in-Done-clause-turned g c =
    hung_at_work g.N.Naming.program c.args.self.now.told [] c.args.self.now.suspended c.args.store.now.about.waiters c.args.cell c.args.goal
    c.args.cells.pass c.hang-cells.result.0.pass
    (c.hang-cells.ensures.same.0 ∙ sym c.requires.store) (c.hang-cells.ensures.done c.in-Done.is) c.requires.at_work

pub returns-in-Bound-clause-turned : goal.returns-in-Bound-clause-turned
returns-in-Bound-clause-turned g c =
    let found = c.hang-cells.ensures.bound c.in-Bound.to c.in-Bound.goal c.in-Bound.is in
    at_work_also g.N.Naming.program c.args.self.now.told c.put.new.self.told [] c.args.self.now.suspended c.put.new.self.suspended c.hang-cells.result.0.pass
    c.put.ensures.0 c.put.ensures.1
    (found_at_work g.N.Naming.program c.args.self.now.told [] c.args.self.now.suspended c.args.store.now c.args.cell c.in-Bound.to c.args.cells.pass
    c.hang-cells.result.0.pass
    c.hang-cells.ensures.same.0 c.requires.store c.requires.cell found.1 c.requires.at_work)
