use Rattle.std.proofs.Common.{refl, ◌∙◌}
use Rattle.and_workers.proofs.AtWork.{work_is_handed_on, going_on, stopped}
use Rattle.and_workers.proofs.worker.Reducer+StoreCells+N.run.Goals as goal

pub loop-init : goal.loop-init
loop-init g c = (refl, c.requires.at_work)

pub turn-next-requires-clause-store : goal.turn-next-requires-clause-store
turn-next-requires-clause-store g c κs within = c.loop.invariant.0 ∙ c.requires.store

pub turn-next-requires-clause-at_work : goal.turn-next-requires-clause-at_work
turn-next-requires-clause-at_work g c κs within = c.loop.invariant.1

pub loop-preserved : goal.loop-preserved
loop-preserved g c = (
  c.turn-next.ensures.store ∙ c.loop.invariant.0,
  going_on g.N.Naming.program c.turn-next.new.self.told c.turn-next.new.self.suspended c.turn-next.result.0.pass c.turn-next.result.1
      (c.after_turn.ensures.on c.in-On.is)
      c.turn-next.ensures.turned,
)

pub returns-in-Stop-clause-store : goal.returns-in-Stop-clause-store
returns-in-Stop-clause-store g c = c.turn-next.ensures.store ∙ c.loop.invariant.0

pub returns-in-Stop-clause-hands_on : goal.returns-in-Stop-clause-hands_on
returns-in-Stop-clause-hands_on g c =
    stopped g.N.Naming.program c.turn-next.new.self.told c.turn-next.new.self.suspended c.turn-next.result.0.pass c.turn-next.result.1
    (c.after_turn.ensures.stop c.in-Stop.is)
    c.turn-next.ensures.turned

pub returns-in-Memory-clause-store : goal.returns-in-Memory-clause-store
returns-in-Memory-clause-store g c = c.turn-next.ensures.store ∙ c.loop.invariant.0

pub returns-clause-store : goal.returns-clause-store
returns-clause-store g c = c.loop.invariant.0

pub returns-clause-hands_on : goal.returns-clause-hands_on
returns-clause-hands_on g c = work_is_handed_on g.N.Naming.program c.loop.self.told c.loop.self.suspended c.loop.cells.pass c.loop.invariant.1
