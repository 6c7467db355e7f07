use Rattle.std.proofs.Common.{◌++◌, ◌∷◌, [], ap, ◌∙◌}
use Rattle.and_batch.proofs.Slots.{no_hole}
use Rattle.and_batch.proofs.placing.texts_of.Goals as goal

pub unreachable-requires : goal.unreachable-requires
unreachable-requires c =
    let more = c.pop.new.self.items in
    no_hole c.args.slots.items c.loop-slot.slots.items more c.loop-slot.texts.items c.requires c.loop-slot.invariant
    (c.in-Some.ensures.items ∙ ap (λ slot. more ++ slot ∷ []) c.in_default-slot.is)
