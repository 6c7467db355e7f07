use Rattle.std.proofs.Common.{◌+◌, ◌-◌, ◌≡◌, Some, arith}
use Rattle.and_tasks.proofs.Copied.{come_at, copy_at, serves_at}
use Rattle.and_tasks.proofs.stack.copy_for_oldest.Goals as goal

pub copied-requires-clause-children : goal.copied-requires-clause-children
copied-requires-clause-children g c =
    let (limit, are) = c.requires.tasks in
    let x = come_at g.N.Naming.program limit c.args.stack.now (c.forks_below-forks.result - 1) c.in-Some.level.now are c.in-Some.ensures in
    (x.tree, x.children)

pub copied-requires-clause-back : goal.copied-requires-clause-back
copied-requires-clause-back g c =
    let forks = c.forks_below-forks.result in
    let next : forks ≡ (forks - 1) + 1 = omega (arith, c.if-forks-eq0.false) in
    (serves_at (Some c.args.left.now) c.args.stack.now (forks - 1) forks c.in-Some.level.now c.in-Some-left_at.branch.now next c.requires.served
    c.in-Some.ensures c.in-Some-left_at.ensures).back

pub taken_down-requires-clause-copy : goal.taken_down-requires-clause-copy
taken_down-requires-clause-copy g c =
    let forks = c.forks_below-forks.result in
    let next : forks ≡ (forks - 1) + 1 = omega (arith, c.if-forks-eq0.false) in
    let b = c.in-Some-left_at.branch.now in
    copy_at c.args.stack.now (forks - 1) c.in-Some.level.now b c.in_ok-copy.copy c.in-Some.ensures
    (serves_at (Some c.args.left.now) c.args.stack.now (forks - 1) forks c.in-Some.level.now b next c.requires.served c.in-Some.ensures
    c.in-Some-left_at.ensures) c.in_ok-copy.ensures.back c.in_ok-copy.ensures.key
