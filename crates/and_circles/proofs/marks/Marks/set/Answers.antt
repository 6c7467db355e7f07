use Rattle.std.proofs.Common.{Some, ap, ◌∙◌, slice_set}
use Rattle.and_circles.specs.Marked.{Listed}
use Rattle.and_circles.proofs.Stamps.{stamped}
use Rattle.and_circles.proofs.marks.Marks.set.Goals as goal

pub returns : goal.returns
returns c = stamped c.self.inside.stamps.items c.self.inside.round c.args.cell c.args.mark
    ∙ ap (λ (l : Listed). slice_set l c.args.cell (Some c.args.mark)) c.self.view_is
