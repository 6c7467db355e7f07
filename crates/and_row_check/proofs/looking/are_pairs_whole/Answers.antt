use Rattle.std.proofs.Common.{Ok, ap, arith}
use Rattle.and_cells.specs.Parts.{named}
use Rattle.and_cells.specs.Ranges.{IsInRange}
use Rattle.and_unify.specs.declared.pairs.Pair.{Pair}
use Rattle.and_row_check.specs.Places.{IsSideWhole}
use Rattle.and_row_check.proofs.Loops.{all_at, all_done, all_next_got}
use Rattle.and_row_check.proofs.looking.are_pairs_whole.Goals as goal

pub is_side_whole-requires-else-not-branch-clause-in_range : goal.is_side_whole-requires-else-not-branch-clause-in_range
is_side_whole-requires-else-not-branch-clause-in_range c =
    let P = named c.args.loaded.now in
    let words = c.requires.in_range.0 in (
      words,
      (all_at (λ (p : Pair). IsInRange P words p.left × IsInRange P words p.right) c.args.pairs.now c.loop-place.place c.at-pair.result.now
          c.requires.in_range.1 c.at-pair.ensures).1,
    )

pub loop-place-preserved : goal.loop-place-preserved
loop-place-preserved c =
    let P = named c.args.loaded.now in
    let frames = c.args.frames.now in
    let row = c.args.cells.now in
    let left = c.in_ok-is_side_whole.ensures in
    let right = c.in_ok-is_side_whole-2.ensures in
    let one = ap (λ b. Ok b) c.if-not-branch.false in
    let other = ap (λ b. Ok b) c.if-not-branch-2.false in
    record {
      spans = right.spans;
      whole = all_next_got (λ (p : Pair). IsSideWhole P frames row p.left × IsSideWhole P frames row p.right) c.args.pairs.now c.loop-place.place
          c.at-pair.result.now c.loop-place.invariant.whole c.at-pair.ensures (
            record { in_range = left.in_range one; names = left.names one; written = left.written one },
            record { in_range = right.in_range other; names = right.names other; written = right.written other },
          );
    }

pub returns : goal.returns
returns c = λ _.
    let over = c.loop-place-test.false in
    let long = c.len-place-end.ensures in
    all_done (λ (p : Pair). IsSideWhole (named c.args.loaded.now) c.args.frames.now c.args.cells.now p.left
    × IsSideWhole (named c.args.loaded.now) c.args.frames.now c.args.cells.now p.right) c.args.pairs.now c.loop-place.place
    c.loop-place.invariant.whole (omega (arith, over, long))
