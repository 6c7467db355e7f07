use Rattle.std.proofs.Common.{◌≡◌, false}
use Rattle.and_handed.specs.declared.told.HandedOn.{HandedOn}
use Rattle.and_gathering.proofs.Loops.{all_next, all_done}
use Rattle.and_gathering.proofs.gathering.is_spoilt.Goals as goal

pub loop-told-preserved : goal.loop-told-preserved
loop-told-preserved c =
    all_next (λ (t : HandedOn). t.is_spoilt ≡ false) c.args.tolds.now c.loop-told.told-index c.told-item.result c.loop-told.invariant
    c.loop-told-test.true c.told-item.is c.if-told.false

pub returns : goal.returns
returns c = λ _. all_done (λ (t : HandedOn). t.is_spoilt ≡ false) c.args.tolds.now c.loop-told.told-index c.loop-told.invariant c.loop-told-test.false
