use Rattle.std.proofs.Common.{◌≡◌, vec_capacity}
use Rattle.crossbeam_deque.specs.Handles.{worker_view, SameWorker}
use Rattle.and_goals.proofs.Emptying.{Moving}
use Rattle.and_goals.proofs.deque.empty.Given as goal

abbrev pub invariant-loop : goal.invariant-loop
invariant-loop l = record {
  same : SameWorker l.fn.owner l.owner;
  capacity : vec_capacity l.goals ≡ vec_capacity l.fn.goals;
  moving : Moving (worker_view l.fn.owner) l.fn.goals.items l.left l.counter (worker_view l.owner) l.goals.items;
}
