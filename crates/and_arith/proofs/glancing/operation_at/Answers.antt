use Rattle.std.proofs.Common.{ap, ◌∙◌}
use Rattle.and_cells.specs.Parts.{named, part_at}
use Rattle.and_arith.proofs.Telling.{of_two_parts}
use Rattle.and_arith.proofs.glancing.operation_at.Goals as goal

pub returns : goal.returns
returns g c =
    let P = named c.args.loaded.now in
    let base = c.in-Node.base in (
      c.in-Node.node,
      base,
      c.in-Node.is,
      of_two_parts g.N.Naming.program P c.in-Node.node base c.in-Compound.name c.in-Compound.count c.resolve-one.result c.resolve-other.result
          c.requires.program c.in-Compound.ensures.shape c.if-count-ne2.false (c.resolve-one.ensures ∙ ap (part_at P base) c.argument-first.ensures.node)
          (c.resolve-other.ensures ∙ ap (part_at P base) c.argument-second.ensures.node),
    )
