use Rattle.std.proofs.Common.{rules, ◌≡◌, ℤ, FitsSigned, w64, true, ◌∙◌, sym, subst}
use Rattle.std.proofs.lemmas.Int.{ints}
use Rattle.std.specs.Prelude.{◌↔◌}
use Rattle.and_program.specs.Items.{relation}
use Rattle.and_program.specs.Skeletons.{node_term}
use Rattle.and_arith.proofs.Numbers.{as_read}
use Rattle.and_guards.specs.declared.guards.Side.TheVariants.{Number}
use Rattle.and_guards.specs.Guards.{IsFalseIn}
use Rattle.and_guards.specs.Sides.{IsSide, sides_fail}
use Rattle.and_guards.proofs.SideAnswers.{sides_tell}
use Rattle.and_guards.proofs.guards.is_false.Goals as goal

pub returns-in-Some-number_at_once-clause-judged : goal.returns-in-Some-number_at_once-clause-judged
returns-in-Some-number_at_once-clause-judged g c = λ b e.
    let P = g.N.Naming.program in
    let row = c.args.cells.now in
    let base = c.args.base in
    let o = relation c.args.by in
    let a = node_term P.skeleton.nodes c.args.left.0 in
    let d = node_term P.skeleton.nodes c.args.right.0 in
    let x : ℤ = c.in-Some.first in
    let y : ℤ = c.in-Some-number_at_once.second in
    let x_fits : FitsSigned w64 x = search (rules, ints) in
    let y_fits : FitsSigned w64 y = search (rules, ints) in
    let tells = sides_tell P row base o a d (Number x) (Number y) c.in-Some.ensures c.in-Some-number_at_once.ensures in
    let is : sides_fail o (Number x) (Number y) ≡ b =
    sym (c.numbers_fail.ensures ∙ as_read (λ z w. sides_fail o (Number z) (Number w)) x y x_fits y_fits) ∙ cc in
    subst (λ v. (v ≡ true) ↔ IsFalseIn P row base o a d) is tells

pub returns-clause-judged : goal.returns-clause-judged
returns-clause-judged g c = λ b e.
    let P = g.N.Naming.program in
    let row = c.args.cells.now in
    let base = c.args.base in
    let a = node_term P.skeleton.nodes c.args.left.0 in
    let d = node_term P.skeleton.nodes c.args.right.0 in
    let second = subst (λ r. IsSide P r base d c.in_ok-second.second) c.evaluate.ensures.unchanged c.in_ok-second.ensures.side in
    let first = c.in_ok-first.ensures.side in
    let tells = sides_tell P row base (relation c.args.by) a d c.in_ok-first.first c.in_ok-second.second first second in
    let is : sides_fail (relation c.args.by) c.in_ok-first.first c.in_ok-second.second ≡ b = sym c.fails.ensures ∙ cc in
    subst (λ x. (x ≡ true) ↔ IsFalseIn P row base (relation c.args.by) a d) is tells
