use Rattle.std.proofs.Common.{Bool, true, false, Ok, ◌∙◌, ap}
use Rattle.and_program.specs.Loaded.{program_of}
use Rattle.and_modes.specs.Kept.{assignment_of}
use Rattle.and_modes.proofs.Looking.{looked_fell, looked_same}
use Rattle.and_modes.proofs.inference.look_at_all.Goals.{then-branch, else-branch}
use Rattle.and_modes.proofs.inference.look_at_all.Goals as goal

pub loop-number-preserved : goal.loop-number-preserved
loop-number-preserved c =
    let P = program_of c.args.loaded.now in
    let old = assignment_of c.args.modes.now in
    let now = assignment_of c.loop-number.modes in
    let new = assignment_of c.look.new.modes in
    elim c.if-branch.branch [
      | then-branch w ↦ rw w.fell-is
          (looked_fell P c.loop-number.number old now new c.loop-number.fell c.loop-number.invariant
          (c.look.ensures true (c.in_ok-look.was ∙ ap (λ (b : Bool). Ok b) w.if-branch.true)))
      | else-branch w ↦ rw w.fell-is
          (looked_same P c.loop-number.number old now new c.loop-number.fell c.loop-number.invariant
          (c.look.ensures false (c.in_ok-look.was ∙ ap (λ (b : Bool). Ok b) w.if-branch.false)))
    ]
