use Rattle.std.proofs.Common.{◌≤◌, List, length, subst, arith}
use Rattle.and_model.specs.declared.reference.Ref.{Ref}
use Rattle.and_model.specs.declared.reference.Ref.TheVariants.{Number}
use Rattle.and_circles.specs.Marked.{Adds}
use Rattle.and_circles.proofs.Keeping.{slots_made}
use Rattle.and_circles.proofs.structures.Structures.make_slots.Goals as goal

pub returns : goal.returns
returns c =
    let rs : List Ref = c.self.inside.slots.items in
    let longer : length rs ≤ c.args.slots = omega (arith, c.if-slots-len.false, c.len.ensures, c.self.inside.slots.ok.0) in
    subst (λ (old : List Ref). Adds (Number 0) old c.resize.new.self.items) c.self.view_is
    (slots_made rs c.resize.new.self.items _ c.args.slots _ (Number 0) longer c.resize.ensures.items)
