use Rattle.std.proofs.Common.{ℕ, ◌≡◌, ◌<◌, length, get_or, set, List, sym, ap, ◌∙◌, subst, arith, map}
use Rattle.and_arith.specs.Taken.{Listed, entry_of, no_entry, Gives}
use Rattle.and_arith.specs.declared.taken.Entry.{Entry}
use Rattle.and_arith.proofs.Listing.{length_of, cell_of, any_default, slotted_again, gives}
use Rattle.and_arith.proofs.taken.Taken.give.Goals as goal

-- the entry at the place that was found has this cell
read : (items : List Entry) (taken : Listed) (i : ℕ) (cell : ℕ) (e : Entry) → map entry_of items ≡ taken → i < length taken
    → (get_or taken i (entry_of no_entry)).0 ≡ cell → e ≡ get_or items i e
    → (i < length items) × ((get_or items i no_entry).cell ≡ e.cell) × (e.cell ≡ cell)
read items taken i cell e view below at is =
    let low : i < length items = omega (arith, below, length_of items taken view) in
    let same : (get_or items i no_entry).cell ≡ e.cell = ap (λ e. e.cell) (sym (is ∙ any_default items i e no_entry low)) in
    (low, same, sym same ∙ sym (cell_of items taken i (entry_of no_entry) view low) ∙ at)

pub index_mut-requires : goal.index_mut-requires
index_mut-requires c =
    let at = c.position.ensures.some c.in-Some.place c.in-Some.is in
    omega (arith, at.0, length_of c.self.inside.entries.items c.args.self.now c.self.view_is, c.self.inside.entries.ok.0)

pub invariant_of-self : goal.invariant_of-self
invariant_of-self c =
    let items = c.self.inside.entries.items in
    let at = c.position.ensures.some c.in-Some.place c.in-Some.is in
    let r = read items c.args.self.now c.in-Some.place c.args.cell c.index_mut.result.now c.self.view_is at.0 at.1 c.index_mut.ensures.value in
    let e : Entry = record { cell = c.index_mut.result.now.cell; value = c.args.value } in
    slotted_again c.self.inside.slots.items items c.in-Some.place e r.0 r.1 c.self.invariant

pub unreachable-requires : goal.unreachable-requires
unreachable-requires c = c.requires (c.position.ensures.none c.in-None.is)

pub returns : goal.returns
returns c =
    let items = c.self.inside.entries.items in
    let at = c.position.ensures.some c.in-Some.place c.in-Some.is in
    let r = read items c.args.self.now c.in-Some.place c.args.cell c.index_mut.result.now c.self.view_is at.0 at.1 c.index_mut.ensures.value in
    let e : Entry = record { cell = c.index_mut.result.now.cell; value = c.args.value } in
    subst (λ (cell : ℕ). Gives cell c.args.value c.args.self.now (map entry_of (set items c.in-Some.place e))) r.2
    (subst (λ (l : Listed). Gives e.cell e.value l (map entry_of (set items c.in-Some.place e))) c.self.view_is
    (gives c.self.inside.slots.items items c.in-Some.place e r.0 r.1 c.self.invariant))
