use Rattle.std.proofs.Common.{◌∙◌}
use Rattle.and_workers.proofs.AtWork.{fresh_at_work}
use Rattle.and_workers.proofs.worker.work.Goals as goal

pub run-cells-requires-clause-at_work : goal.run-cells-requires-clause-at_work
run-cells-requires-clause-at_work g c κs within =
    let told = c.new-reducer.ensures.told in
    fresh_at_work g.N.Naming.program c.new-reducer.result.told c.new-reducer.result.suspended c.new-cells.result.pass c.args.shared.now.store.now
    c.args.job.number
    (c.new-cells.ensures.1 ∙ c.into_parts-number.ensures.1 ∙ c.requires.fresh) told.0 told.1 told.2 told.3 c.new-reducer.ensures.suspended
