use Rattle.std.proofs.Common.{List, ap}
use Rattle.and_model.specs.declared.reference.Ref.{Ref}
use Rattle.and_circles.specs.Explored.{Finished}
use Rattle.and_circles.proofs.Keeping.{nothing_known}
use Rattle.and_circles.proofs.explorer.Explorer.restart.Goals as goal

pub returns : goal.returns
returns c =
    let begun : List Ref → Finished = λ places. record { places = places; floor = c.args.floor; halves = c.args.halves } in
    ap begun (nothing_known c.forget.new.self.marks c.forget.new.self.structures c.forget.ensures.marks c.forget.ensures.structures)
