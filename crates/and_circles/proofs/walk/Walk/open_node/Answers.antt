use Rattle.std.proofs.Common.{◌<◌, ap, ◌∙◌, arith, length}
use Rattle.and_program.specs.Loaded.{arguments_at}
use Rattle.and_cells.specs.Parts.{named, part_at}
use Rattle.and_circles.proofs.Opening.{opens_more}
use Rattle.and_circles.proofs.walk.Walk.open_node.Goals.{in-Compound, in-Variable, in-Number}
use Rattle.and_circles.proofs.walk.Walk.open_node.Goals as goal

pub loop-place-preserved : goal.loop-place-preserved
loop-place-preserved c =
    let P = named c.args.loaded.now in
    let there : c.loop-place.place < length (arguments_at P.skeleton c.args.node.0) =
    elim c.match-kind.branch [
      | in-Compound w ↦ omega (arith, w.in-Compound.ensures.count)
      | in-Variable w ↦ absurd (omega arith)
      | in-Number w ↦ absurd (omega arith)
    ] in (
      opens_more P c.args.node c.args.base c.loop-place.place c.resolve-part.result c.args.self.now c.loop-place.self c.push-in-loop-place.new.self
          c.loop-place.invariant.0 there (omega arith) (c.resolve-part.ensures ∙ ap (part_at P c.args.base) c.argument.ensures.node)
          c.in_ok-push-2.ensures.items,
      c.loop-place.invariant.1,
      c.loop-place.invariant.2,
    )
