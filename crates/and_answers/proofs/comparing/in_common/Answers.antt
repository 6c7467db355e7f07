use Rattle.std.proofs.Common.{arith, drop}
use Rattle.std.proofs.lemmas.List.{length-drop, drop_all}
use Rattle.and_answers.proofs.CompareLemmas.{parted_end, parted_here, read_first, one_more_same}
use Rattle.and_answers.proofs.comparing.in_common.Goals as goal

pub returns-then-count-len : goal.returns-then-count-len
returns-then-count-len c =
    let xs = drop c.args.one_from c.args.one.now in
    let ys = drop c.args.other_from c.args.other.now in
    let count = c.loop-count.count in
    let long = length-drop c.args.one_from c.args.one.now in
    let far = length-drop c.args.other_from c.args.other.now in record {
      within_one = omega (arith, long, c.loop-count-test.true, c.len.ensures);
      within_other = c.loop-count.invariant.1;
      same = c.loop-count.invariant.0;
      parted = parted_end (drop count xs) (drop count ys)
          (drop_all count ys (omega (arith, far, c.if-count-len.true, c.len-in-loop-count.ensures)));
    }

pub returns-then-at : goal.returns-then-at
returns-then-at c =
    let xs = drop c.args.one_from c.args.one.now in
    let ys = drop c.args.other_from c.args.other.now in
    let count = c.loop-count.count in
    let a = c.at.result.now.0 in
    let b = c.at-in-loop-count.result.now.0 in
    let long = length-drop c.args.one_from c.args.one.now in record {
      within_one = omega (arith, long, c.loop-count-test.true, c.len.ensures);
      within_other = c.loop-count.invariant.1;
      same = c.loop-count.invariant.0;
      parted = parted_here (drop count xs) (drop count ys) _ _ a b (read_first c.args.one.now c.args.one_from count a c.at.ensures)
          (read_first c.args.other.now c.args.other_from count b c.at-in-loop-count.ensures) c.if-at.true;
    }

pub loop-count-preserved : goal.loop-count-preserved
loop-count-preserved c =
    let xs = drop c.args.one_from c.args.one.now in
    let ys = drop c.args.other_from c.args.other.now in
    let count = c.loop-count.count in
    let a = c.at.result.now.0 in
    let b = c.at-in-loop-count.result.now.0 in
    let far = length-drop c.args.other_from c.args.other.now in (
      one_more_same xs ys _ _ count a b (read_first c.args.one.now c.args.one_from count a c.at.ensures)
          (read_first c.args.other.now c.args.other_from count b c.at-in-loop-count.ensures) c.if-at.false c.loop-count.invariant.0,
      omega (arith, far, c.if-count-len.false, c.len-in-loop-count.ensures, c.loop-count.invariant.1),
    )
