use Rattle.std.proofs.Common.{length, sym, subst, ap, arith}
use Rattle.and_batch.specs.Working.{AreFilled, LieByNumber}
use Rattle.and_batch.proofs.Called.{if_ok_both}
use Rattle.and_batch.proofs.Slots.{by_number, written_back}
use Rattle.and_batch.proofs.placing.in_order.Goals as goal

pub texts_of-requires : goal.texts_of-requires
texts_of-requires c =
    let new = c.place.new.slots in
    let slots = c.in_ok-slots.slots in
    let value = ap length c.as_mut_slice.ensures.value in
    let is = written_back slots.len new slots.items (omega (arith, c.place.ensures.len, value)) (omega (arith, slots.ok.0)) in
    subst AreFilled (sym is) c.place.ensures.filled

pub returns-clause-by_number : goal.returns-clause-by_number
returns-clause-by_number c =
    let new = c.place.new.slots in
    let slots = c.in_ok-slots.slots in
    let ds = c.args.dones.items in
    let value = ap length c.as_mut_slice.ensures.value in
    let is = written_back slots.len new slots.items (omega (arith, c.place.ensures.len, value)) (omega (arith, slots.ok.0)) in
    if_ok_both c.texts_of.result _ _ _ c.texts_of.ensures c.texts_of.ensures
    (λ texts are same. by_number ds _ texts (subst (λ l. LieByNumber ds l) (sym is) c.place.ensures.by_number) are)
