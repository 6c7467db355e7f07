use Rattle.std.proofs.Common.{◌≡◌, []}
use Rattle.and_workers.specs.AtWork.{IsAtWork}
use Rattle.and_workers.proofs.worker.Reducer+StoreCells+N.run.Given as goal

abbrev pub invariant-loop : goal.invariant-loop
invariant-loop g l = (l.cells.pass.store ≡ l.initial.cells.pass.store) × IsAtWork g.N.Naming.program l.self.told [] l.self.suspended l.cells.pass
