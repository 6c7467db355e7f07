use Rattle.std.proofs.Common.{Bool, true, false, Ok, ◌∙◌, ◌≡◌, ap, arith}
use Rattle.and_modes.specs.Kept.{assignment_of}
use Rattle.and_modes.specs.Totals.{height}
use Rattle.and_modes.proofs.inference.settle_short.Goals as goal

pub loop-smaller : goal.loop-smaller
loop-smaller c = (c.look_again.ensures true (c.in_ok-look_again.was ∙ ap (λ (b : Bool). Ok b) c.if-branch.true)).1

pub loop-preserved : goal.loop-preserved
loop-preserved c =
    let fell = c.look_again.ensures true (c.in_ok-look_again.was ∙ ap (λ (b : Bool). Ok b) c.if-branch.true) in (
      λ other well above. fell.0 other well (c.loop.invariant.0 other well above),
      (let lower = fell.1 in let before = c.loop.invariant.1 in omega arith),
    )

pub returns-clause-above : goal.returns-clause-above
returns-clause-above c = λ ok other well above.
    (c.look_again.ensures false (c.in_ok-look_again.was ∙ ap (λ (b : Bool). Ok b) c.if-branch.false)).0 other well (c.loop.invariant.0 other well above)

pub returns-clause-lower : goal.returns-clause-lower
returns-clause-lower c = λ ok.
    let same = c.look_again.ensures false (c.in_ok-look_again.was ∙ ap (λ (b : Bool). Ok b) c.if-branch.false) in
    let equal : height (assignment_of c.look_again.new.modes) ≡ height (assignment_of c.loop.modes) = ap height same.1.0 in
    let before = c.loop.invariant.1 in
    omega arith
