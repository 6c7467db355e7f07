use Rattle.std.proofs.Common.{◌∙◌, ap, ◌∷◌, arith, reverse}
use Rattle.and_cells.specs.Parts.{named, part_at}
use Rattle.and_arith.specs.declared.walk.Task.TheVariants.{Leave}
use Rattle.and_arith.proofs.Opening.{part_entered}
use Rattle.and_arith.proofs.values.WorkList.open.Goals as goal

pub loop-left-preserved : goal.loop-left-preserved
loop-left-preserved c =
    let P = named c.args.loaded.now in
    let i = c.loop-left.invariant in record {
      tasks = part_entered P c.args.node c.args.base _ c.loop-left.left c.resolve-part.result _ _
          (Leave c.args.name c.args.count ∷ reverse c.args.self.now.tasks.items)
          (omega (arith, c.loop-left-test.true)) i.within (c.resolve-part.ensures ∙ ap (part_at P c.args.base) c.argument.ensures.node) i.tasks
          c.in_ok-push-2.ensures.items;
      within = omega (arith, i.within);
      values = i.values;
      taken = i.taken;
    }
