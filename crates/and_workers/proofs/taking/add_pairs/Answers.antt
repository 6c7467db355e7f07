use Rattle.std.proofs.Common.{◌∷◌, [], ◌++◌, List, sym, ap, ◌∙◌, append_assoc}
use Rattle.std.proofs.lemmas.List.{take_more}
use Rattle.std.proofs.lemmas.Option.{get_or_from_slice_get, slice_get_within}
use Rattle.std.proofs.Math.ListN.{take}
use Rattle.and_unify.specs.declared.pairs.Pair.{Pair}
use Rattle.and_workers.proofs.taking.add_pairs.Goals as goal

pub loop-place-preserved : goal.loop-place-preserved
loop-place-preserved c =
    let pairs = c.args.pairs.now in
    let place = c.loop-place.place in
    let pair = c.at-pair.result.now in
    record {
      added = c.in_ok-push.ensures.ok ∙ ap (λ (ps : List Pair). ps ++ pair ∷ []) c.loop-place.invariant.added
          ∙ append_assoc c.args.all.now (take place pairs) (pair ∷ [])
          ∙ ap (λ (ps : List Pair). c.args.all.now ++ ps)
          (ap (λ (p : Pair). take place pairs ++ p ∷ []) (sym (get_or_from_slice_get pairs place pair pair c.at-pair.ensures))
          ∙ sym (take_more pairs place pair (slice_get_within pairs place pair c.at-pair.ensures)));
    }
