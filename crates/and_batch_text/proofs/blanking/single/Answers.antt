use Rattle.std.proofs.Common.{◌∙◌, ◌+◌, ap}
use Rattle.std.proofs.lemmas.List.{take_rest}
use Rattle.and_batch_text.specs.Singles.{blanked, is_in_one}
use Rattle.and_batch_text.specs.Views.{spans_of}
use Rattle.and_batch_text.proofs.Blanks.{single_made}
use Rattle.and_batch_text.proofs.blanking.single.Goals as goal

pub returns : goal.returns
returns c =
    let text = c.in_ok-text.text in
    let k = c.args.number in
    let ss = c.args.spans.now in
    let second = c.as_mut_slice-2.result.now in
    let behind = c.blank_all-2.ensures ∙ ap (λ us. blanked (is_in_one (spans_of us)) 0 second) (take_rest ss (k + 1)) in
    single_made text.len k ss c.args.bytes.now text.items c.blank_all.new.bytes c.blank_all-2.new.bytes c.as_mut_slice.result.now second
    c.in_ok-text.ensures.items
    text.ok.0 c.as_mut_slice.ensures.value c.blank_all.ensures c.as_mut_slice-2.ensures.value behind
