use Rattle.std.proofs.Common.{ap}
use Rattle.std.specs.Prelude.{slice_range}
use Rattle.and_pending.specs.Pending.{cells_at}
use Rattle.and_pending.specs.declared.watch.Watch.{Watch}
use Rattle.and_pending.proofs.pending.sleeps_by_list.Goals as goal

pub returns : goal.returns
returns g c = λ yes.
    let cells = c.args.cells.now in
    let range = c.in-Listed.range in
    (slice_range cells range.first range.past, ap (λ (w : Watch). cells_at cells w) c.in-Listed.is, c.all_free.ensures yes)
