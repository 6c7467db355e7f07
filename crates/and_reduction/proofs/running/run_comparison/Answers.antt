use Rattle.std.proofs.Common.{rules, ℤ, FitsSigned, w64, refl, sym, subst, ◌∙◌}
use Rattle.std.proofs.lemmas.Int.{ints}
use Rattle.std.proofs.lemmas.Result.{IfOk-weaker}
use Rattle.and_arith.proofs.Numbers.{as_read}
use Rattle.and_guards.specs.declared.guards.Side.TheVariants.{Number}
use Rattle.and_program.specs.Items.{relation}
use Rattle.and_program.specs.Skeletons.{node_term}
use Rattle.and_reduction.specs.Sides.{IsComparison, RunsTo, compared_with}
use Rattle.and_reduction.proofs.Outcomes.{sides_compare, comparison_runs}
use Rattle.and_reduction.proofs.running.run_comparison.Goals as goal

pub returns-clause-ran : goal.returns-clause-ran
returns-clause-ran g c =
    let P = g.N.Naming.program in
    let row = c.args.cells.now in
    let goal = c.args.goal in
    let o = relation c.args.by in
    let a = node_term P.skeleton.nodes c.args.left.0 in
    let b = node_term P.skeleton.nodes c.args.right.0 in
    let x : ℤ = c.in-Some.first in
    let y : ℤ = c.in-Some-number_at_once.second in
    let x_fits : FitsSigned w64 x = search (rules, ints) in
    let y_fits : FitsSigned w64 y = search (rules, ints) in
    let is = c.compare_numbers.ensures ∙ as_read (λ z w. compared_with o (Number z) (Number w)) x y x_fits y_fits in
    subst (RunsTo P row row goal) (sym is)
    (comparison_runs P row row goal o a b c.requires.item.item_is refl _
    (sides_compare P row goal.base o a b (Number x) (Number y) c.in-Some.ensures c.in-Some-number_at_once.ensures))

pub returns-in_default-clause-ran : goal.returns-in_default-clause-ran
returns-in_default-clause-ran g c =
    let P = g.N.Naming.program in
    let row = c.args.cells.now in
    let goal = c.args.goal in
    let o = relation c.args.by in
    let a = node_term P.skeleton.nodes c.args.left.0 in
    let b = node_term P.skeleton.nodes c.args.right.0 in
    let last = c.compare_by_sides.new.cells in
    IfOk-weaker c.compare_by_sides.result (IsComparison P row goal.base o a b) (RunsTo P row last goal)
    (comparison_runs P row last goal o a b c.requires.item.item_is c.compare_by_sides.ensures.unchanged) c.compare_by_sides.ensures.compared

pub returns-in_default-number_at_once-clause-ran : goal.returns-in_default-number_at_once-clause-ran
returns-in_default-number_at_once-clause-ran g c =
    let P = g.N.Naming.program in
    let row = c.args.cells.now in
    let goal = c.args.goal in
    let o = relation c.args.by in
    let a = node_term P.skeleton.nodes c.args.left.0 in
    let b = node_term P.skeleton.nodes c.args.right.0 in
    let last = c.compare_with_side.new.cells in
    IfOk-weaker c.compare_with_side.result (IsComparison P row goal.base o a b) (RunsTo P row last goal)
    (comparison_runs P row last goal o a b c.requires.item.item_is c.compare_with_side.ensures.unchanged) c.compare_with_side.ensures.compared
