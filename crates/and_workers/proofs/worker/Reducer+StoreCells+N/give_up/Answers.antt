use Rattle.std.proofs.Common.{sym, ◌∙◌}
use Rattle.and_workers.proofs.Ending.{gives_up}
use Rattle.and_workers.proofs.worker.Reducer+StoreCells+N.give_up.Goals as goal

pub returns-clause-turned : goal.returns-clause-turned
returns-clause-turned g c =
    gives_up g.N.Naming.program c.args.self.now.told c.args.cause c.args.cells.pass c.fail.result.pass (c.fail.ensures.same.0
    ∙ sym c.requires.store) c.requires.live.1 c.fail.ensures.fails c.requires.done c.requires.kills
