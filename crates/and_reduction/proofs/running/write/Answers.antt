use Rattle.std.proofs.Common.{◌+◌, w64, refl, ap, ◌∙◌, arith}
use Rattle.std.proofs.lemmas.Int.{to_z-of_z}
use Rattle.and_cells.specs.Numbers.{high_half, low_half}
use Rattle.and_step_laws.proofs.Numbers.{pair_filled}
use Rattle.and_reduction.proofs.running.write.Goals as goal

pub returns-clause-written : goal.returns-clause-written
returns-clause-written g c =
    let same = to_z-of_z w64 c.args.value c.ranges.value in
    let low = c.halves-high.result.1 in
    pair_filled c.args.cells.now c.set.new.self c.set-2.new.self c.args.pair (c.args.pair + 1) c.args.value c.halves-high.result.0 low low
    c.requires.in_range (omega arith) c.requires.low_free c.set.ensures (λ free. (c.set-2.ensures, refl))
    (c.halves-high.ensures.high ∙ ap high_half same) (c.halves-high.ensures.low ∙ ap low_half same) c.ranges.value
