use Rattle.std.proofs.Common.{◌≡◌}
use Rattle.and_workers.proofs.taking.Reducer+StoreCells+N.put_body.Given as goal

abbrev pub invariant-loop-place : goal.invariant-loop-place
invariant-loop-place g l = record {
  told : l.self.told ≡ l.fn.self.told;
  suspended : l.self.suspended ≡ l.fn.self.suspended;
}
