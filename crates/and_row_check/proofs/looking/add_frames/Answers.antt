use Rattle.std.proofs.Common.{◌++◌, ◌∷◌, [], List, map, take, ap, sym, ◌∙◌, append_assoc}
use Rattle.std.proofs.lemmas.List.{map-append}
use Rattle.and_model.specs.declared.goal.Frame.{Frame}
use Rattle.and_model.specs.declared.goal.Reduction.{Reduction}
use Rattle.and_row_check.specs.Places.{frame_of}
use Rattle.and_row_check.proofs.Loops.{next_got}
use Rattle.and_row_check.proofs.looking.add_frames.Goals as goal

pub loop-place-preserved : goal.loop-place-preserved
loop-place-preserved c =
    let r = c.at-reduction.result.now in
    let front = take c.loop-place.place c.args.reductions.now in
    let mapped = map-append frame_of front (r ∷ []) in
    let got = next_got c.args.reductions.now c.loop-place.place r c.at-reduction.ensures in
    let pushed = c.in_ok-push.ensures.items in
    pushed ∙ ap (λ (l : List Frame). l ++ frame_of r ∷ []) c.loop-place.invariant
    ∙ append_assoc c.args.frames.now.items (map frame_of front) (frame_of r ∷ [])
    ∙ ap (λ (l : List Frame). c.args.frames.now.items ++ l) (sym mapped ∙ ap (λ (l : List Reduction). map frame_of l) (sym got))
