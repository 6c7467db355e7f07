use Rattle.std.proofs.Common.{◌<◌, arith}
use Rattle.std.specs.Slots.{slots_len}
use Rattle.and_tree.proofs.closing.discard.Goals as goal

pub take-requires : goal.take-requires
take-requires g c =
    let i = c.loop-slot.invariant in
    let below : c.loop-slot.slot < slots_len c.loop-slot.table.slots = let a = c.loop-slot-test.true in let b = c.slot_count-slot-end.ensures in
    let e = i.2 in omega (arith, a, b, e) in
    (below, i.0 c.loop-slot.slot (omega arith) below)

pub free-requires : goal.free-requires
free-requires g c = λ k within.
    let i = c.loop-slot.invariant in
    i.1 k (let a = c.loop-slot-test.false in let b = c.slot_count-slot-end.ensures in let e = i.2 in omega (arith, a, b, e, within))
