use Rattle.and_cells.specs.Parts.{named}
use Rattle.and_program.specs.declared.item.ItemNode.TheVariants.{Call}
use Rattle.and_print.proofs.Reckoning.{goal_read}
use Rattle.and_proof.proofs.explaining.name_goal.Goals as goal

pub name_item-requires-clause-means : goal.name_item-requires-clause-means
name_item-requires-clause-means g c =
    let (t, m) = c.requires.means in (
      m.values,
      (goal_read (named c.args.loaded.now) c.args.cells.now c.args.goal t m c.items.result.now (Call (record { 0 = 0 })) c.items.ensures.items
          c.items.ensures.body).0,
    )

pub returns : goal.returns
returns g c = λ t m.
    let both = goal_read (named c.args.loaded.now) c.args.cells.now c.args.goal t m c.items.result.now (Call (record { 0 = 0 })) c.items.ensures.items
    c.items.ensures.body in
    c.name_item.ensures m.values both.0 t both.1
