use Rattle.std.proofs.Common.{List, subst, set}
use Rattle.and_model.specs.declared.reference.Ref.{Ref}
use Rattle.and_model.specs.declared.reference.Ref.TheVariants.{Node}
use Rattle.and_circles.specs.Marked.{Adds}
use Rattle.and_circles.proofs.Keeping.{put_at}
use Rattle.and_circles.proofs.structures.Structures.put.Goals as goal

pub returns-then-slot-len : goal.returns-then-slot-len
returns-then-slot-len c =
    let rs : List Ref = c.self.inside.slots.items in
    let at : Ref = Node c.args.node c.args.base in
    subst (λ (old : List Ref). Adds at old (set rs c.slot-slot.result at)) c.self.view_is (put_at rs c.slot-slot.result at)
