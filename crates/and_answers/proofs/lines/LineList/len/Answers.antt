use Rattle.std.proofs.Common.{List, [], length, ap, arith}
use Rattle.and_model.specs.Lines.{Bytes}
use Rattle.and_answers.proofs.LinePieceLemmas.{length_lines}
use Rattle.and_answers.proofs.lines.LineList.len.Goals as goal

pub returns : goal.returns
returns c =
    let long = length_lines [] c.self.inside.pieces.items in
    let same = ap (λ (ls : List Bytes). length ls) c.self.view_is in
    let held = c.self.inside.pieces.ok.0 in
    omega (arith, long, same, held, c.len.ensures)
