use Rattle.std.proofs.Common.{sym, subst}
use Rattle.and_program.specs.Items.{relation}
use Rattle.and_program.specs.Skeletons.{node_term}
use Rattle.and_guards.specs.Sides.{IsSide}
use Rattle.and_reduction.specs.Sides.{IsComparison}
use Rattle.and_reduction.proofs.Outcomes.{sides_compare}
use Rattle.and_reduction.proofs.running.compare_by_sides.Goals as goal

pub returns-clause-compared : goal.returns-clause-compared
returns-clause-compared g c =
    let P = g.N.Naming.program in
    let row = c.args.cells.now in
    let base = c.args.base in
    let o = relation c.args.by in
    let a = node_term P.skeleton.nodes c.args.left.0 in
    let b = node_term P.skeleton.nodes c.args.right.0 in
    let second = subst (λ r. IsSide P r base b c.in_ok-second.second) c.evaluate.ensures.unchanged c.in_ok-second.ensures.side in
    subst (IsComparison P row base o a b) (sym c.compare_sides.ensures)
    (sides_compare P row base o a b c.in_ok-first.first c.in_ok-second.second c.in_ok-first.ensures.side second)
