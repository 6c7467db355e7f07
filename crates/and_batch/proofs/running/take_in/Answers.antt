use Rattle.crossbeam_queue.specs.Passes.{view}
use Rattle.and_batch.proofs.Moves.{merges}
use Rattle.and_batch.proofs.Taking.{took_in}
use Rattle.and_batch.proofs.running.take_in.Goals as goal

pub absorb-requires-clause-rule : goal.absorb-requires-clause-rule
absorb-requires-clause-rule c = merges _ _ _ _ c.requires.pass.1

pub returns-clause-took : goal.returns-clause-took
returns-clause-took c = took_in (view c.args.whole.now) (view c.args.worked.pass) _ c.args.worked.dones.items c.requires.worked.1 c.absorb.ensures.rule
