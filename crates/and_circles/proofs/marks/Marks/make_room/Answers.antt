use Rattle.std.proofs.Common.{◌≤◌, length, ap, ◌∙◌, arith}
use Rattle.and_circles.specs.Marked.{Listed, mark_at}
use Rattle.and_circles.proofs.Stamps.{resized}
use Rattle.and_circles.proofs.marks.Marks.make_room.Goals as goal

pub returns-clause-same : goal.returns-clause-same
returns-clause-same c = λ cell.
    let longer : length c.self.inside.stamps.items ≤ c.args.cells = omega (arith, c.if-cells-len.false, c.len.ensures, c.self.inside.stamps.ok.0) in
    resized c.self.inside.stamps.items c.resize.new.self.items _ c.args.cells _ c.self.inside.round _ c.self.invariant.0 longer c.resize.ensures.items cell
    ∙ ap (λ (marks : Listed). mark_at marks cell) c.self.view_is
