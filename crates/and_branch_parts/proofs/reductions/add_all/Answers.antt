use Rattle.std.proofs.Common.{arith}
use Rattle.and_program.specs.Loaded.{program_of}
use Rattle.and_branch_parts.proofs.AddedReductions.{one_added, one_weighed}
use Rattle.and_branch_parts.proofs.reductions.add_all.Goals as goal

pub overflow_add-weight : goal.overflow_add-weight
overflow_add-weight c =
    let weighs = c.weight-weight.ensures in
    let fits = c.requires.fits in
    let now = one_weighed c.args.made.now c.loop-place.place c.at-reduction.result.now c.at-reduction.ensures (program_of c.args.loaded.now)
    c.loop-place.weight _ c.loop-place.invariant.1 in
    omega (arith, weighs, fits, now)

pub loop-place-preserved : goal.loop-place-preserved
loop-place-preserved c =
    let weighs = c.weight-weight.ensures in
    let now = one_weighed c.args.made.now c.loop-place.place c.at-reduction.result.now c.at-reduction.ensures (program_of c.args.loaded.now)
    c.loop-place.weight _ c.loop-place.invariant.1 in (
      one_added c.args.made.now c.loop-place.place c.at-reduction.result.now c.at-reduction.ensures c.loop-place.reductions
          c.add.new.reductions _ c.in_ok-add.ensures c.loop-place.invariant.0,
      omega (arith, weighs, now),
    )
