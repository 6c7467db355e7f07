use Rattle.std.proofs.Common.{w64, sym, subst, ◌∙◌, ap}
use Rattle.std.proofs.lemmas.Int.{to_z-of_z}
use Rattle.and_program.specs.Items.{relation}
use Rattle.and_program.specs.Skeletons.{node_term}
use Rattle.and_guards.specs.declared.guards.Side.TheVariants.{Number}
use Rattle.and_reduction.specs.Sides.{IsComparison, compared_with}
use Rattle.and_reduction.proofs.Outcomes.{sides_compare}
use Rattle.and_reduction.proofs.running.compare_with_side.Goals as goal

pub returns-clause-compared : goal.returns-clause-compared
returns-clause-compared g c =
    let P = g.N.Naming.program in
    let row = c.args.cells.now in
    let o = relation c.args.by in
    let a = node_term P.skeleton.nodes c.args.left.0 in
    let b = node_term P.skeleton.nodes c.args.right.0 in
    let second = c.in_ok-second.second in
    let is = c.compare_sides.ensures ∙ ap (λ z. compared_with o (Number z) second) (to_z-of_z w64 c.args.first c.ranges.first) in
    subst (IsComparison P row c.args.base o a b) (sym is)
    (sides_compare P row c.args.base o a b (Number c.args.first) second c.requires.left c.in_ok-second.ensures.side)
