use Rattle.std.proofs.Common.{◌≡◌, ◌+◌, []}
use Rattle.crossbeam_queue.specs.Passes.{view, IsPassOf, ruled_capacity}
use Rattle.and_shares.specs.Balance.{share}
use Rattle.and_batch.specs.Balance.{below}
use Rattle.and_batch.proofs.numbers.numbers_below.Given as goal

abbrev pub invariant-loop-number : goal.invariant-loop-number
invariant-loop-number g l =
    IsPassOf l.numbers l.pass × (view l.pass ≡ share 9 (below l.number) []) × (ruled_capacity l.numbers ≡ l.count + 1)
