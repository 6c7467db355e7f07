use Rattle.std.proofs.Common.{rules, arith, ◌≡◌, ◌+◌, get_or, length, ap}
use Rattle.and_goals.specs.Hands.{HandSeen, put_by}
use Rattle.and_goals.proofs.Sums.{all_put_more}
use Rattle.and_goals.proofs.leaving.all_puts.Goals as goal

pub loop-place-preserved : goal.loop-place-preserved
loop-place-preserved c =
    let hs = c.args.hands.now in
    let i = c.loop-place.place in
    let h = c.index-hands-place.result in
    let added : c.in_ok-count.count ≡ c.loop-place.count + c.in_ok-puts.field-0 = search rules in
    let puts : c.in_ok-puts.field-0 ≡ length h.own.put = search rules in
    let here : get_or hs i h ≡ h = search rules in
    let same = ap (λ (x : HandSeen). length (put_by x)) here in
    let more = all_put_more hs i h c.loop-place-test.true in
    let was = c.loop-place.invariant in
    omega arith
