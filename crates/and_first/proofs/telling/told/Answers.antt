use Rattle.std.proofs.Common.{◌++◌, refl, ap, ◌∙◌}
use Rattle.and_model.specs.Lines.{Bytes}
use Rattle.and_model.specs.Output.{lines_of}
use Rattle.and_first.specs.First.{last_line}
use Rattle.and_first.specs.Steps.{first_entries}
use Rattle.and_first.proofs.ToldLemmas.{tells}
use Rattle.and_first.proofs.telling.told.Goals as goal

pub returns : goal.returns
returns c =
    let es = c.first_of-entries.result.now in
    let first = ap (λ (bytes : Bytes). bytes ++ lines_of (first_entries c.args.found.now c.args.count)) c.new-text.ensures in
    let text = c.in_ok-write_end.ensures
    ∙ ap (λ (bytes : Bytes). bytes ++ last_line c.args.count c.args.end) (c.in_ok-write_lines.ensures ∙ first) in
    tells c.args.found.now c.args.count c.args.end c.entries.result.now es _ c.entries.ensures c.first_of-entries.ensures refl text refl
    c.are_floundered.ensures
