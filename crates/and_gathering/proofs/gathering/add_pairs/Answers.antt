use Rattle.std.proofs.Common.{◌++◌, ◌∷◌, [], ap, sym, ◌∙◌, take, append_assoc}
use Rattle.and_gathering.proofs.Loops.{next_got}
use Rattle.and_gathering.proofs.gathering.add_pairs.Goals as goal

pub loop-place-preserved : goal.loop-place-preserved
loop-place-preserved c =
    let pair = c.at-pair.result.now in
    let front = take c.loop-place.place c.args.pairs.now in
    c.in_ok-push.ensures.ok ∙ ap (λ l. l ++ pair ∷ []) c.loop-place.invariant ∙ append_assoc c.args.all.now front (pair ∷ [])
    ∙ ap (λ l. c.args.all.now ++ l) (sym (next_got c.args.pairs.now c.loop-place.place pair c.at-pair.ensures))
