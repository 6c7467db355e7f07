use Rattle.std.proofs.Common.{ℕ, ◌+◌, ◌-◌, ◌≡◌, subst, arith}
use Rattle.and_tasks.specs.Copying.{IsCopyAt}
use Rattle.and_tasks.proofs.Copied.{come_at, goes_below, copy_below}
use Rattle.and_tasks.proofs.stack.taken_down.Goals as goal

pub taken_below-copy-requires-clause-children : goal.taken_below-copy-requires-clause-children
taken_below-copy-requires-clause-children g c =
    let (limit, are) = c.requires.tasks in
    let x = come_at g.N.Naming.program limit c.args.stack.now (c.loop-at.at - 1) c.in-Some-level_at.level.now are c.in-Some-level_at.ensures in
    (x.tree, x.children)

pub taken_below-copy-requires-clause-below : goal.taken_below-copy-requires-clause-below
taken_below-copy-requires-clause-below g c =
    let (left, served) = c.requires.served in
    let next : c.loop-at.at ≡ (c.loop-at.at - 1) + 1 = omega (arith, c.loop-at-test.true) in
    goes_below left c.args.stack.now (c.loop-at.at - 1) c.loop-at.at c.in-Some-level_at.level.now c.in-Some.above.now next served
    c.in-Some-level_at.ensures c.in-Some.ensures

pub taken_below-copy-requires-clause-copy : goal.taken_below-copy-requires-clause-copy
taken_below-copy-requires-clause-copy g c = (c.loop-at.invariant.0 c.in-Some.above.now c.in-Some.ensures).back

pub loop-at-preserved : goal.loop-at-preserved
loop-at-preserved g c =
    let (left, served) = c.requires.served in
    let next : c.loop-at.at ≡ (c.loop-at.at - 1) + 1 = omega (arith, c.loop-at-test.true) in (
      copy_below left c.args.stack.now (c.loop-at.at - 1) c.loop-at.at c.in-Some-level_at.level.now c.in-Some.above.now next served
          c.in-Some-level_at.ensures c.in-Some.ensures c.loop-at.copy c.taken_below-copy.result c.loop-at.invariant.0
          c.taken_below-copy.ensures.back c.taken_below-copy.ensures.key,
      omega (arith, c.loop-at.invariant.1),
    )

pub returns : goal.returns
returns g c =
    let bottom : c.loop-at.at ≡ 0 = omega (arith, c.loop-at-test.false) in
    subst (λ (n : ℕ). IsCopyAt c.args.stack.now n c.loop-at.copy) bottom c.loop-at.invariant.0
