use Rattle.std.proofs.Common.{length, ap, arith}
use Rattle.std.proofs.lemmas.List.{length-drop, length-map}
use Rattle.and_model.specs.declared.numbers.ClauseNo.{ClauseNo}
use Rattle.and_branch_parts.specs.Children.{Fork}
use Rattle.and_branch_parts.specs.Forking.{numbers}
use Rattle.and_branch.proofs.choicepoint.Choicepoint.left.Goals as goal

pub returns : goal.returns
returns g c =
    let inside = c.self.inside in
    let seen = ap (λ (f : Fork). length f.clauses) c.self.view_is in
    let dropped = length-drop inside.made (numbers inside.clauses) in
    let mapped = length-map inside.clauses (λ (d : ClauseNo). d.0) in
    let len = c.len.ensures in
    let left = c.saturating_sub.ensures in
    omega (arith, seen, dropped, mapped, len, left)
