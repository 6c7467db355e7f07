use Rattle.std.proofs.Common.{◌<◌, ◌≤◌, length, refl, arith}
use Rattle.and_program.specs.Loaded.{skeleton_of, arguments_at}
use Rattle.and_cells.specs.Parts.{named}
use Rattle.and_cells.proofs.GroundParts.{part_known, parts_known}
use Rattle.and_cells.proofs.ground.parts_are_known.Goals as goal

pub loop-place-preserved : goal.loop-place-preserved
loop-place-preserved c =
    let within : c.loop-place.place < length (arguments_at (skeleton_of c.args.loaded.now) c.args.node.0) =
    let count = c.argument_count-count.ensures in omega (arith, c.loop-place-test.true) in
    part_known (named c.args.loaded.now) c.args.known.now c.args.node c.args.base c.loop-place.place c.argument-argument.result c.resolve.result within
    c.argument-argument.ensures.node c.resolve.ensures c.loop-place.invariant (c.if-not-is_end_or_known.ensures refl)

pub returns : goal.returns
returns c = λ _.
    let long : length (arguments_at (skeleton_of c.args.loaded.now) c.args.node.0) ≤ c.loop-place.place =
    let count = c.argument_count-count.ensures in omega (arith, c.loop-place-test.false) in
    parts_known (named c.args.loaded.now) c.args.known.now c.args.node c.args.base c.loop-place.place long c.loop-place.invariant
