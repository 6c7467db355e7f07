use Rattle.std.proofs.Common.{◌≡◌, ◌++◌, take}
use Rattle.and_workers.proofs.taking.add_pairs.Given as goal

abbrev pub invariant-loop-place : goal.invariant-loop-place
invariant-loop-place l = record {
  added : l.all ≡ l.fn.all ++ take l.place l.pairs;
}
