use Rattle.std.proofs.Common.{List, refl, sym, subst, map}
use Rattle.and_answers.specs.Kept.{entry_of, listed, SameEnd}
use Rattle.and_answers.specs.Order.{HasDistinctCodes, InOrder}
use Rattle.and_answers.specs.declared.found.Entry.{Entry}
use Rattle.and_answers.specs.declared.found.Found.{Found}
use Rattle.and_answers.proofs.RisingLemmas.{risen_in_order}
use Rattle.and_answers.proofs.coded.Coded.in_order.Goals as goal

pub in_order-requires : goal.in_order-requires
in_order-requires c = c.self.invariant

pub returns : goal.returns
returns c =
    let found : Found = c.self.inside.found in
    let new : List Entry = c.in_ok-in_order.field-0 in
    let risen = c.in_ok-in_order.ensures in
    let apart : HasDistinctCodes (listed found) = subst (λ (f : Found). HasDistinctCodes (listed f)) (sym c.self.view_is) c.requires in
    let order : InOrder (listed found) (map entry_of new) =
    subst (λ (es : List Entry). InOrder (listed found) (map entry_of es)) (sym risen.entries)
    (risen_in_order found.entries risen.tails apart risen.same risen.rises) in
    subst (λ (f : Found). InOrder (listed f) (map entry_of new) × SameEnd f (record found { entries = new }))
    c.self.view_is (order, record { forks = refl; failed = refl; cut = refl })
