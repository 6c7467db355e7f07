use Rattle.and_cells.specs.Parts.{named}
use Rattle.and_program.specs.declared.item.ItemNode.TheVariants.{Call}
use Rattle.and_print.proofs.Reckoning.{goal_read}
use Rattle.and_print.proofs.printer.Printer.write_goal.Goals as goal

pub write_item-requires-clause-means : goal.write_item-requires-clause-means
write_item-requires-clause-means g c =
    let (t, m) = c.requires.means in (
      m.values,
      (goal_read (named c.args.self.now.loaded.now) c.args.self.now.cells.now c.args.goal t m c.items.result.now (Call (record { 0 = 0 }))
          c.items.ensures.items c.items.ensures.body).0,
    )

pub returns : goal.returns
returns g c = λ t m.
    let both = goal_read (named c.args.self.now.loaded.now) c.args.self.now.cells.now c.args.goal t m c.items.result.now (Call (record { 0 = 0 }))
    c.items.ensures.items c.items.ensures.body in
    c.write_item.ensures m.values both.0 t both.1
