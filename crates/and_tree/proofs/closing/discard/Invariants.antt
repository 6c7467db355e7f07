use Rattle.std.proofs.Common.{◌≡◌, ℕ, ◌<◌, false, get_or}
use Rattle.std.specs.Slots.{slots_filled, slots_len}
use Rattle.std.specs.Mem.Slots.Ownership.{Filled}
use Rattle.and_tree.proofs.closing.discard.Given as goal

abbrev pub invariant-loop-slot : goal.invariant-loop-slot
invariant-loop-slot g l =
    Filled (slots_filled l.table.slots) l.slot (slots_len l.table.slots) × ((k : ℕ) → k < l.slot → get_or (slots_filled l.table.slots) k false ≡ false)
    × (slots_len l.table.slots ≡ slots_len l.fn.table.slots)
