use Rattle.std.proofs.Common.{rules, ℤ, w64, to_z, of_z, FitsSigned, arith, sym, subst}
use Rattle.std.proofs.lemmas.Int.{ints, to_z-of_z}
use Rattle.and_model.specs.declared.reference.Ref.{Ref}
use Rattle.and_arith.specs.Glances.{IsTold, IsGivenBy}
use Rattle.and_arith.proofs.Telling.{parts_fit, left_told, right_told, both_told}
use Rattle.and_arith.proofs.glancing.+glance.Goals as goal

pub glance-left-requires : goal.glance-left-requires
glance-left-requires g t c κs within =
    let made = c.in-Some.ensures in
    let part = c.in-Some.operation in
    let fit = parts_fit g.N.Naming.program c.args.cells.now c.args.expression made.0 made.1 part.name.0 part.one part.other c.requires.falls made.3 made.2
    c.requires.in_range in
    (omega (arith, c.decreases, c.if-levels-eq0.false), (search rules, (c.requires.program, (c.requires.falls, (fit.0.0, fit.0.1)))))

pub returns-in_default-left : goal.returns-in_default-left
returns-in_default-left g t c =
    let P = g.N.Naming.program in
    let row = c.args.cells.now in
    let made = c.in-Some.ensures in
    let part = c.in-Some.operation in
    let left = c.glance-left.result in
    subst (λ (r : Ref). IsTold P row r left) (sym made.2)
    (left_told P row made.0 made.1 part.name.0 part.one part.other made.3 left c.in_default-left.not-Number c.glance-left.ensures)

pub glance-right-requires : goal.glance-right-requires
glance-right-requires g t c κs within =
    let made = c.in-Some.ensures in
    let part = c.in-Some.operation in
    let fit = parts_fit g.N.Naming.program c.args.cells.now c.args.expression made.0 made.1 part.name.0 part.one part.other c.requires.falls made.3 made.2
    c.requires.in_range in
    (omega (arith, c.decreases, c.if-levels-eq0.false), (search rules, (c.requires.program, (c.requires.falls, (fit.1.0, fit.1.1)))))

pub returns-in_default-right : goal.returns-in_default-right
returns-in_default-right g t c =
    let P = g.N.Naming.program in
    let row = c.args.cells.now in
    let made = c.in-Some.ensures in
    let part = c.in-Some.operation in
    let right = c.glance-right.result in
    subst (λ (r : Ref). IsTold P row r right) (sym made.2)
    (right_told P row made.0 made.1 part.name.0 part.one part.other made.3 c.in-Number.first c.in-Number.ensures right c.in_default-right.not-Number
    c.glance-right.ensures)

pub returns : goal.returns
returns g t c =
    let P = g.N.Naming.program in
    let row = c.args.cells.now in
    let made = c.in-Some.ensures in
    let part = c.in-Some.operation in
    let x : ℤ = c.in-Number.first in
    let y : ℤ = c.in-Number-right.second in
    let x_fits : FitsSigned w64 x = search (rules, ints) in
    let y_fits : FitsSigned w64 y = search (rules, ints) in
    let told = c.told_by_two.result in
    let given = subst (λ (b : ℤ). IsGivenBy part.name.0 x b told) (to_z-of_z w64 y y_fits)
    (subst (λ (a : ℤ). IsGivenBy part.name.0 a (to_z w64 (of_z w64 y)) told) (to_z-of_z w64 x x_fits) c.told_by_two.ensures) in
    subst (λ (r : Ref). IsTold P row r told) (sym made.2)
    (both_told P row made.0 made.1 part.name.0 part.one part.other made.3 x y c.in-Number.ensures c.in-Number-right.ensures told given)
