use Rattle.std.proofs.Common.{ℕ, ◌≡◌, ◌++◌, ◌∷◌, [], List, length, set, map, sym, subst, arith, None}
use Rattle.and_arith.specs.Taken.{Listed, entry_of, IsNew, AreSlotted}
use Rattle.and_arith.specs.declared.taken.Entry.{Entry}
use Rattle.and_arith.proofs.Listing.{slotted_push, slotted_by}
use Rattle.and_arith.proofs.taken.Taken.take.Goals as goal

pub invariant_of-self-2 : goal.invariant_of-self-2
invariant_of-self-2 c =
    let items = c.self.inside.entries.items in
    let slots = c.make_slot.new.slots.items in
    let new : IsNew (map entry_of items) c.args.cell = subst (λ (l : Listed). IsNew l c.args.cell) (sym c.self.view_is) c.requires in
    let place : c.len-place.result ≡ length items = omega (arith, c.self.inside.entries.ok.0) in
    let e : Entry = record { cell = c.args.cell; value = None } in
    let pushed = slotted_push slots items e c.in_ok-make_slot.ensures.there new
    (slotted_by c.self.inside.slots.items slots items c.make_slot.ensures.same c.self.invariant) in
    subst (λ (es : List Entry). AreSlotted (set slots c.args.cell c.len-place.result) es) (sym c.in_ok-push.ensures.items)
    (subst (λ (n : ℕ). AreSlotted (set slots c.args.cell n) (items ++ e ∷ [])) (sym place) pushed)
