use Rattle.std.proofs.Common.{List, ℕ, ◌+◌, take, sym, ap, ◌∙◌, subst}
use Rattle.std.proofs.lemmas.List.{take_all}
use Rattle.and_reduction.specs.Trails.{AreNoted}
use Rattle.and_reduction.proofs.Noting.{next_noted, next_passed, noted_below}
use Rattle.and_reduction.proofs.trail.note_below.Goals.{then-cell-mark+in_ok-push, else-cell-mark}
use Rattle.and_reduction.proofs.trail.note_below.Goals as goal

pub loop-cell-preserved : goal.loop-cell-preserved
loop-cell-preserved c = elim c.if-cell-mark.branch [
  | then-cell-mark+in_ok-push w ↦ next_noted c.args.mark c.args.noted.now.items c.loop-cell.noted.items c.args.cells.now c.loop-cell.cell-index
      c.loop-cell-test.true c.loop-cell.invariant c.if-cell-mark.noted.items (ap (λ v. v.items) w.noted-is ∙ w.in_ok-push.ensures.items)
  | else-cell-mark w ↦ subst (λ v. AreNoted (noted_below c.args.mark c.args.noted.now.items) (noted_below c.args.mark v.items)
      (take (c.loop-cell.cell-index + 1) c.args.cells.now)) (sym w.noted-is)
      (next_passed c.args.mark c.args.noted.now.items c.loop-cell.noted.items c.args.cells.now c.loop-cell.cell-index
      c.loop-cell-test.true c.loop-cell.invariant w.if-cell-mark.false)
]

pub returns : goal.returns
returns c =
    subst (λ (cells : List ℕ). AreNoted (noted_below c.args.mark c.args.noted.now.items) (noted_below c.args.mark c.loop-cell.noted.items) cells)
    (take_all c.loop-cell.cell-index c.args.cells.now c.loop-cell-test.false) c.loop-cell.invariant
