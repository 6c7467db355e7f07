use Rattle.std.proofs.Common.{◌≡◌, length, arith}
use Rattle.and_batch.proofs.Called.{if_ok_both, all_called}
use Rattle.and_batch.proofs.running.worked_by.Goals as goal

pub returns-clause-each : goal.returns-clause-each
returns-clause-each g c =
    let passes = c.args.passes in
    if_ok_both c.map_vec.result _ _ _ c.map_vec.ensures.len c.map_vec.ensures.each (λ all long gives.
    let as_many : length all.items ≡ length passes.items = omega (arith, long, all.ok.0, passes.ok.0) in
    all_called _ _ _ passes.items all.items as_many gives (λ p w r. r.met))
