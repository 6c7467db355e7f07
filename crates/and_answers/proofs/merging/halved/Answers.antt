use Rattle.std.proofs.Common.{[], ◌∷◌, length, length-append, ap, arith}
use Rattle.and_answers.proofs.MergeLemmas.{one_joined}
use Rattle.and_answers.proofs.merging.halved.Goals as goal

pub loop-run-preserved : goal.loop-run-preserved
loop-run-preserved c =
    let i = c.loop-run.invariant in
    let old = c.loop-run.runs.items in
    let rest = c.pop.new.self.items in
    let new = c.with_next.new.runs.items in
    let done = c.loop-run.fewer.items in
    let more = c.push.new.self.items in
    let whole = ap length c.in-Some.ensures.items in
    let one_more = length-append rest (c.in-Some.run' ∷ []) in
    let longer = ap length c.in_ok-push.ensures.items in
    let put = length-append done (c.in_ok-both.both ∷ []) in
    let fewer = c.in_ok-both.ensures.fewer in
    let before = i.some_left (omega (arith, whole, one_more)) in record {
      same = one_joined c.args.runs.items old rest new done more c.in-Some.run' c.in_ok-both.both c.in-Some.ensures.items c.in_ok-push.ensures.items
          i.same c.in_ok-both.ensures.same;
      some_left = λ some. omega (arith, whole, one_more, longer, put, fewer, some, before);
      half = omega (arith, whole, one_more, longer, put, fewer, before);
    }
