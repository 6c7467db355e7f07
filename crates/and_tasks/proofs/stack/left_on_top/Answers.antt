use Rattle.std.proofs.Common.{◌≡◌, ◌+◌, ◌-◌, length, take, arith}
use Rattle.and_tasks.proofs.Topped.{top_fork}
use Rattle.and_tasks.proofs.stack.left_on_top.Goals as goal

pub returns-in-Some : goal.returns-in-Some
returns-in-Some g c =
    let xs = c.args.stack.now in
    let last = length xs - 1 in
    let long : last + 1 ≡ length xs = omega (arith, c.if-count-eq0.false) in λ some. (
      c.in-Some.level.now,
      take last xs,
      top_fork xs last c.in-Some.level.now c.in-Some.ensures long,
      c.left.ensures,
    )
