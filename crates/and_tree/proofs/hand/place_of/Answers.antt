use Rattle.and_tree.proofs.Placing.{behind_first, behind_next, behind_none, found_at}
use Rattle.and_tree.proofs.hand.place_of.Goals as goal

pub loop-place-init : goal.loop-place-init
loop-place-init c = behind_first c.args.key.now c.args.hand.now c.requires

pub loop-place-preserved : goal.loop-place-preserved
loop-place-preserved c =
    behind_next c.args.key.now c.args.hand.now c.loop-place.place c.index-hand-place.result c.is_same.result c.loop-place-test.true
    c.index-hand-place.is c.is_same.ensures c.if-is_same.false c.loop-place.invariant

pub unreachable-unreachable : goal.unreachable-unreachable
unreachable-unreachable c = behind_none c.args.key.now c.args.hand.now c.loop-place.place c.loop-place-test.false c.loop-place.invariant

pub returns-then-is_same-clause-first : goal.returns-then-is_same-clause-first
returns-then-is_same-clause-first c =
    found_at c.args.key.now c.args.hand.now c.loop-place.place c.index-hand-place.result c.is_same.result c.loop-place-test.true c.index-hand-place.is
    c.is_same.ensures c.if-is_same.true c.loop-place.invariant
