use Rattle.std.proofs.Common.{arith}
use Rattle.std.proofs.lemmas.List.{nil_from_length}
use Rattle.and_batch.proofs.Slots.{placing_first, placing_next, placing_last}
use Rattle.and_batch.proofs.placing.place.Goals as goal

pub loop-done-init : goal.loop-done-init
loop-done-init c = placing_first c.args.dones.items c.args.slots.now c.requires.once c.requires.empty

pub loop-done-preserved-in-Some : goal.loop-done-preserved-in-Some
loop-done-preserved-in-Some c =
    placing_next _ _ _ c.pop.new.self.items _ c.in-Some.done c.number-number.result c.into_text.result c.loop-done.invariant c.in-Some.ensures.items
    c.number-number.ensures c.into_text.ensures

pub loop-done-preserved : goal.loop-done-preserved
loop-done-preserved c =
    placing_next _ _ _ c.pop.new.self.items _ c.in-Some.done c.number-number.result c.into_text.result c.loop-done.invariant c.in-Some.ensures.items
    c.number-number.ensures c.into_text.ensures

pub returns-clause-filled : goal.returns-clause-filled
returns-clause-filled c =
    let left = c.loop-done.dones in
    let none = c.in_default.ensures.cases.0 in
    placing_last left.items c.loop-done.slots c.loop-done.invariant.each (nil_from_length left.items (omega (arith, left.ok.0, none)))
