use Rattle.std.proofs.Common.{◌≡◌, rules, sym, ◌∙◌, subst, arith}
use Rattle.std.specs.Prelude.{Ok, true, false}
use Rattle.and_program.specs.Skeletons.{AllFall}
use Rattle.and_cells.specs.Ranges.{NamedProgram}
use Rattle.and_circles.specs.declared.explorer.Explored.TheVariants as explored
use Rattle.and_circles.proofs.Paths.{no_circle}
use Rattle.and_circles.proofs.circles.cycle.Goals as goal

pub unreachable-requires : goal.unreachable-requires
unreachable-requires g c =
    let is : c.explore.result ≡ Ok (explored.Half c.in-Ok-Half.field-0-0) = search rules in
    let both : true ≡ false = sym c.loop-cell.invariant.halves ∙ (c.explore.ensures.half c.in-Ok-Half.field-0-0 is).2 in
    absurd (cc both)

pub returns-clause-clear : goal.returns-clause-clear
returns-clause-clear g c = λ e.
    let falls = subst (λ (P : NamedProgram). AllFall 0 P.skeleton.nodes) (sym c.requires.program) c.skeleton_is_of_the_program.ensures.skeleton.0 in
    no_circle g.N.Naming.program falls c.args.cells.now c.len-cell-end.ensures.sound true
    (λ k below. c.loop-cell.invariant.before k (omega (arith, c.len-cell-end.ensures.value)))
