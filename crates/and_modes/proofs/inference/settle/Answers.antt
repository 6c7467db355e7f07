use Rattle.std.proofs.Common.{Bool, true, false, Ok, ◌∙◌, ap, arith}
use Rattle.and_modes.proofs.inference.settle.Goals as goal

pub loop-smaller : goal.loop-smaller
loop-smaller c = c.look_at_long.ensures.lower (c.in_ok-look_at_long.was ∙ ap (λ (b : Bool). Ok b) c.if-branch.true)

pub loop-preserved : goal.loop-preserved
loop-preserved c =
    let is = c.in_ok-look_at_long.was ∙ ap (λ (b : Bool). Ok b) c.if-branch.true in (
      λ other well above. c.look_at_long.ensures.above true is other well (c.loop.invariant.0 other well above),
      (let lower = c.look_at_long.ensures.at_most true is in let before = c.loop.invariant.1 in omega arith),
    )

pub returns-clause-above : goal.returns-clause-above
returns-clause-above c = λ ok other well above.
    c.look_at_long.ensures.above false (c.in_ok-look_at_long.was ∙ ap (λ (b : Bool). Ok b) c.if-branch.false) other well
    (c.loop.invariant.0 other well above)

pub returns-clause-lower : goal.returns-clause-lower
returns-clause-lower c = λ ok.
    let lower = c.look_at_long.ensures.at_most false (c.in_ok-look_at_long.was ∙ ap (λ (b : Bool). Ok b) c.if-branch.false) in
    let before = c.loop.invariant.1 in
    omega arith
