use Rattle.std.proofs.Common.{◌≡◌, None, rules, sym}
use Rattle.and_handed.specs.declared.told.HandedOn.{HandedOn}
use Rattle.and_gathering.proofs.Loops.{all_next, all_done}
use Rattle.and_gathering.proofs.gathering.has_failed.Goals as goal

pub returns-then-is_some-clause-failed : goal.returns-then-is_some-clause-failed
returns-then-is_some-clause-failed c = λ _.
    (c.told-item.result, (c.loop-told.told-index, c.loop-told-test.true, sym c.told-item.is), search (rules, c.if-is_some.ensures))

pub loop-told-preserved : goal.loop-told-preserved
loop-told-preserved c =
    all_next (λ (t : HandedOn). t.cause ≡ None) c.args.tolds.now c.loop-told.told-index c.told-item.result c.loop-told.invariant
    c.loop-told-test.true c.told-item.is (search (rules, c.if-is_some.ensures))

pub returns-clause-lives : goal.returns-clause-lives
returns-clause-lives c = λ _. all_done (λ (t : HandedOn). t.cause ≡ None) c.args.tolds.now c.loop-told.told-index c.loop-told.invariant c.loop-told-test.false
