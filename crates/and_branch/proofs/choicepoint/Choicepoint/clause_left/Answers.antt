use Rattle.std.proofs.Common.{length, ap, arith, ◌≡◌, ◌+◌, ◌∷◌, drop, refl, subst}
use Rattle.std.proofs.lemmas.List.{length-drop, length-map}
use Rattle.and_model.specs.declared.numbers.ClauseNo.{ClauseNo}
use Rattle.and_branch_parts.specs.Children.{Fork}
use Rattle.and_branch_parts.specs.Forking.{numbers}
use Rattle.and_branch_parts.proofs.ForkReduced.{next_clause, later_clause}
use Rattle.and_branch.proofs.choicepoint.Choicepoint.clause_left.Goals as goal

pub overflow_add-self-inside : goal.overflow_add-self-inside
overflow_add-self-inside g c =
    let inside = c.self.inside in
    let seen = ap (λ (f : Fork). length f.clauses) c.self.view_is in
    let dropped = length-drop inside.made (numbers inside.clauses) in
    let mapped = length-map inside.clauses (λ (d : ClauseNo). d.0) in
    let len = c.len-all.ensures in
    let within = c.requires in
    omega (arith, seen, dropped, mapped, len, within)

pub returns : goal.returns
returns g c =
    let inside = c.self.inside in
    let place = c.args.place in
    let next = next_clause inside.clauses (numbers inside.clauses) (inside.made + place) c.at.result.now refl c.at.ensures in
    subst (λ (f : Fork). drop place f.clauses ≡ c.at.result.now.0 ∷ drop (place + 1) f.clauses) c.self.view_is
    (later_clause (numbers inside.clauses) inside.made place c.at.result.now.0 next)
