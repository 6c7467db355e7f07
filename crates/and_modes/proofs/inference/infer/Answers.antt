use Rattle.std.proofs.Common.{Bool, true, false, Ok, ◌∙◌, ◌<◌, ◌≤◌, ap, arith}
use Rattle.and_program.specs.Loaded.{program_of}
use Rattle.and_modes.specs.Kept.{assignment_of}
use Rattle.and_modes.specs.Totals.{height}
use Rattle.and_modes.proofs.Looking.{highest_is_above, is_greatest}
use Rattle.and_modes.proofs.inference.infer.Goals as goal

pub loop-modes-init : goal.loop-modes-init
loop-modes-init c = λ other well. highest_is_above (assignment_of c.highest-modes.result) c.highest-modes.ensures other

pub loop-modes-smaller : goal.loop-modes-smaller
loop-modes-smaller c =
    let fell = c.look_at_all.ensures true (c.in_ok-look_at_all.was ∙ ap (λ (b : Bool). Ok b) c.if-branch.true) in
    let lower : height (assignment_of c.look_at_all.new.modes) < height (assignment_of c.loop-modes.modes) = fell.1 in
    let settled : height (assignment_of c.settle.new.modes) ≤ height (assignment_of c.look_at_all.new.modes) = c.settle.ensures.lower c.in_ok-settle.was in
    let both : height (assignment_of c.settle.new.modes) < height (assignment_of c.loop-modes.modes) = omega arith in
    both

pub loop-modes-preserved : goal.loop-modes-preserved
loop-modes-preserved c = λ other well.
    let fell = c.look_at_all.ensures true (c.in_ok-look_at_all.was ∙ ap (λ (b : Bool). Ok b) c.if-branch.true) in
    c.settle.ensures.above c.in_ok-settle.was other well (fell.0 other well (c.loop-modes.invariant other well))

pub returns : goal.returns
returns c =
    let same = c.look_at_all.ensures false (c.in_ok-look_at_all.was ∙ ap (λ (b : Bool). Ok b) c.if-branch.false) in
    is_greatest (program_of c.args.loaded.now) (assignment_of c.look_at_all.new.modes)
    (λ other well. same.0 other well (c.loop-modes.invariant other well)) same.1.1
