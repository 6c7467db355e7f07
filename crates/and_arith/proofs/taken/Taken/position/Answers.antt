use Rattle.std.proofs.Common.{◌≡◌, ◌<◌, length, get_or, ap, ◌∙◌, subst, arith}
use Rattle.and_arith.specs.Taken.{Listed, IsNew, no_entry}
use Rattle.and_arith.proofs.Listing.{new_if, any_default}
use Rattle.and_arith.proofs.taken.Taken.position.Goals as goal

pub returns-then-place-len-clause-none : goal.returns-then-place-len-clause-none
returns-then-place-len-clause-none c = λ none.
    let slot : c.slot-place.result ≡ get_or c.self.inside.slots.items c.args.cell 0 =
    c.slot-place.ensures ∙ ap (λ xs. get_or xs c.args.cell 0) c.deref.ensures.value in
    subst (λ (l : Listed). IsNew l c.args.cell) c.self.view_is
    (new_if c.self.inside.slots.items c.self.inside.entries.items c.args.cell c.self.invariant
    (λ below own. absurd (omega (arith, below, slot, c.self.inside.entries.ok.0))))

pub returns-then-index-cell-clause-none : goal.returns-then-index-cell-clause-none
returns-then-index-cell-clause-none c = λ none.
    let items = c.self.inside.entries.items in
    let slot : c.slot-place.result ≡ get_or c.self.inside.slots.items c.args.cell 0 =
    c.slot-place.ensures ∙ ap (λ xs. get_or xs c.args.cell 0) c.deref.ensures.value in
    subst (λ (l : Listed). IsNew l c.args.cell) c.self.view_is
    (new_if c.self.inside.slots.items items c.args.cell c.self.invariant
    (λ below own.
    let low : c.slot-place.result < length items = omega (arith, below, slot) in
    let read = c.index.ensures ∙ any_default items c.slot-place.result c.index.result.now no_entry low in
    c.if-index-cell.true (ap (λ e. e.cell) read ∙ ap (λ k. (get_or items k no_entry).cell) slot ∙ own)))
