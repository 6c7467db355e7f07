use Rattle.std.proofs.Common.{◌≡◌, ◌+◌, ◌-◌, length, ap, sym, ◌∙◌, arith}
use Rattle.and_visit.specs.Walking.{left_on_top}
use Rattle.and_visit.proofs.Topped.{none_on_top, on_top}
use Rattle.and_visit.proofs.stack.left_on_top.Goals as goal

pub returns-then-count-eq0 : goal.returns-then-count-eq0
returns-then-count-eq0 g c = sym (none_on_top c.args.stack.now.items (omega (arith, c.len-count.ensures, c.if-count-eq0.true, c.args.stack.now.ok.0)))

pub returns : goal.returns
returns g c =
    let ls = c.args.stack.now.items in
    let last = c.len-count.result - 1 in
    let long : last + 1 ≡ length ls = omega (arith, c.if-count-eq0.false, c.len-count.ensures, c.args.stack.now.ok.0) in
    c.left.ensures ∙ sym (ap left_on_top (on_top ls last long c.index.result.now c.index.ensures))
