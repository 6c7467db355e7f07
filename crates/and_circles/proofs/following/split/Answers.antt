use Rattle.std.proofs.Common.{◌≡◌, sym, ◌∙◌, subst, length, false, arith}
use Rattle.and_model.specs.declared.reference.Ref.{Ref}
use Rattle.and_model.specs.declared.reference.Ref.TheVariants.{Node}
use Rattle.and_program.specs.Loaded.{arguments_at}
use Rattle.and_cells.specs.Ranges.{NamedProgram, IsInRange}
use Rattle.and_cells.specs.Ends.{Ends}
use Rattle.and_circles.specs.Following.{Puts}
use Rattle.and_circles.proofs.Sufficing.{part_found, part_fits, puts_nothing, covers_next, covers_all, structure_ends}
use Rattle.and_circles.proofs.following.split.Goals as goal

pub returns-then-count-eq0 : goal.returns-then-count-eq0
returns-then-count-eq0 g c =
    let P = g.N.Naming.program in
    let row = c.args.cells.now in
    let zero : c.argument_count-count.result ≡ 0 = omega (arith, c.if-count-eq0.true) in
    let count : length (arguments_at P.skeleton c.args.node.0) ≡ 0 =
    subst (λ (Q : NamedProgram). length (arguments_at Q.skeleton c.args.node.0) ≡ 0) (sym c.requires.program) (sym c.argument_count-count.ensures ∙ zero) in
    puts_nothing P row c.args.floor (Ends P row c.args.floor false (Node c.args.node c.args.base)) c.args.visits.now.items
    (structure_ends P row c.args.node c.args.base c.args.floor (λ place below. absurd (omega arith)))

pub loop-place-preserved : goal.loop-place-preserved
loop-place-preserved g c =
    covers_next g.N.Naming.program c.args.cells.now c.args.floor c.args.node c.args.base c.loop-place.place c.args.visits.now.items c.loop-place.visits.items
    c.put_part.new.visits.items
    c.loop-place.invariant c.in_ok-put_part.ensures

pub returns : goal.returns
returns g c =
    let P = g.N.Naming.program in
    let row = c.args.cells.now in
    let count : length (arguments_at P.skeleton c.args.node.0) ≡ c.argument_count-count.result =
    subst (λ (Q : NamedProgram). length (arguments_at Q.skeleton c.args.node.0) ≡ c.argument_count-count.result) (sym c.requires.program)
    (sym c.argument_count-count.ensures) in
    let is = part_found P row c.args.node c.args.base c.args.loaded.now c.argument.result.0 0 c.resolve.result c.requires.program c.resolve.ensures
    c.argument.ensures.node in (
      subst (IsInRange P (length row)) (sym is)
          (part_fits P row c.args.node c.args.base c.requires.falls c.requires.in_range 0 (omega (arith, c.if-count-eq0.false))),
      subst (λ (r : Ref). Puts P row c.args.floor (Ends P row c.args.floor false r
          → Ends P row c.args.floor false (Node c.args.node c.args.base)) c.args.visits.now.items c.loop-place.visits.items) (sym is)
          (covers_all P row c.args.floor c.args.node c.args.base c.loop-place.place c.args.visits.now.items c.loop-place.visits.items c.loop-place.invariant
          (omega (arith, c.loop-place-test.false))),
    )
