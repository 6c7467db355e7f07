use Rattle.std.proofs.Common.{◌≡◌, ◌≤◌, take, vec_capacity}
use Rattle.std.specs.Slots.{slots_items}
use Rattle.and_store.proofs.closing.copy_words.Given as goal

abbrev pub invariant-loop-place : goal.invariant-loop-place
invariant-loop-place l = (l.words.items ≡ take l.place (slots_items l.table.words)) × (l.end ≤ vec_capacity l.words)
