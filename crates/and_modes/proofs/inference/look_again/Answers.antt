use Rattle.std.proofs.Common.{Bool, true, false, Ok, ◌∙◌, ap, get_or}
use Rattle.and_model.specs.Programs.{clause_at}
use Rattle.and_program.specs.Loaded.{program_of}
use Rattle.and_modes.specs.Modes.{IsWellModed}
use Rattle.and_modes.specs.Kept.{assignment_of}
use Rattle.and_modes.proofs.Looking.{again_fell, again_same}
use Rattle.and_modes.proofs.inference.look_again.Goals.{then-no-clause_count+in_ok-look+then-branch, else-no-clause_count}
use Rattle.and_modes.proofs.inference.look_again.Goals.{else-no-clause_count-via-then-no-clause_count+in_ok-look+else-branch}
use Rattle.and_modes.proofs.inference.look_again.Goals.{else-no-clause_count-via-else-no-clause_count}
use Rattle.and_modes.proofs.inference.look_again.Goals as goal

pub loop-no-preserved : goal.loop-no-preserved
loop-no-preserved c =
    let P = program_of c.args.loaded.now in
    let old = assignment_of c.args.modes.now in
    let now = assignment_of c.loop-no.modes in
    elim c.if-no-clause_count.branch [
      | then-no-clause_count+in_ok-look+then-branch w ↦ rw (w.modes-is, w.fell-is)
          (again_fell P old now (assignment_of w.look.new.modes) c.loop-no.fell
          (IsWellModed (assignment_of w.look.new.modes) (clause_at P (get_or c.deref-no-items.result.now c.loop-no.no-index (record { 0 = 0 })).0))
          (Unit {0}) c.loop-no.invariant (w.look.ensures true (w.in_ok-look.was ∙ ap (λ (b : Bool). Ok b) w.if-branch.true)))
      | else-no-clause_count w ↦ rw (w.modes-is, w.fell-is) (elim w.else-no-clause_count.branch [
        | else-no-clause_count-via-then-no-clause_count+in_ok-look+else-branch v ↦ rw v.modes-is
            (again_same P old now (assignment_of v.look.new.modes) c.loop-no.fell
            (IsWellModed (assignment_of v.look.new.modes) (clause_at P (get_or c.deref-no-items.result.now c.loop-no.no-index (record { 0 = 0 })).0))
            c.loop-no.invariant (v.look.ensures false (v.in_ok-look.was ∙ ap (λ (b : Bool). Ok b) v.if-branch.false)))
        | else-no-clause_count-via-else-no-clause_count v ↦ rw v.modes-is c.loop-no.invariant
      ])
    ]
