use Rattle.std.proofs.Common.{arith}
use Rattle.crossbeam_queue.specs.Passes.{view}
use Rattle.and_batch.proofs.Moves.{puts, learns}
use Rattle.and_batch.proofs.BelowCount.{as_many}
use Rattle.and_batch.proofs.numbers.put.Goals as goal

pub push_as-requires-clause-rule : goal.push_as-requires-clause-rule
push_as-requires-clause-rule g c = let p = c.requires.parts in (puts _ _ _ _ (omega arith), learns _ _)

pub unreachable-requires : goal.unreachable-requires
unreachable-requires g c =
    let held = c.in-Err.ensures.rule.2 in
    let many = as_many (view c.args.pass.now) held.0 c.requires.parts c.requires.fresh held.2 in
    omega (arith, held.1, c.requires.room)
