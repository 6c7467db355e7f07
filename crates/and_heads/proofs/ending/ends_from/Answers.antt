use Rattle.std.proofs.Common.{false, subst}
use Rattle.and_model.specs.declared.reference.Ref.TheVariants.{Cell}
use Rattle.and_cells.specs.Ends.{Ends}
use Rattle.and_heads.proofs.ending.ends_from.Goals as goal

pub returns : goal.returns
returns g c = λ is.
    let P = g.N.Naming.program in
    let row = c.args.cells.now in
    let ends = c.ends.ensures is in (
      λ low. subst (λ n. Ends P row n false (Cell c.args.cell)) (c.floor_beside-from.ensures.below low) ends,
      λ high. subst (λ n. Ends P row n false (Cell c.args.cell)) (c.floor_beside-from.ensures.above high) ends,
    )
