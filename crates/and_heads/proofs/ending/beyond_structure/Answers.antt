use Rattle.std.proofs.Common.{ℕ, ◌≡◌, ◌-◌, length, sym, subst, arith}
use Rattle.and_model.specs.declared.reference.Ref.TheVariants.{Node}
use Rattle.and_program.specs.Loaded.{arguments_at}
use Rattle.and_cells.specs.Ranges.{NamedProgram}
use Rattle.and_cells.specs.Ends.{Ends}
use Rattle.and_circles.proofs.Sufficing.{part_found, structure_ends}
use Rattle.and_heads.proofs.Looking.{part_goes_on}
use Rattle.and_heads.proofs.ending.beyond_structure.Goals as goal

pub returns-then-base-floor-clause-ended : goal.returns-then-base-floor-clause-ended
returns-then-base-floor-clause-ended g c = λ _. Ends.low (Node c.args.node c.args.base) c.if-base-floor.true

pub returns-then-count-eq0-clause-ended : goal.returns-then-count-eq0-clause-ended
returns-then-count-eq0-clause-ended g c = λ _.
    let P = g.N.Naming.program in
    let count : length (arguments_at P.skeleton c.args.node.0) ≡ c.argument_count-count.result =
    subst (λ (Q : NamedProgram). length (arguments_at Q.skeleton c.args.node.0) ≡ c.argument_count-count.result) (sym c.requires.program)
    (sym c.argument_count-count.ensures) in
    let zero = c.if-count-eq0.true in
    structure_ends P c.args.cells.now c.args.node c.args.base c.args.floor (λ place below. absurd (omega arith))

pub parts_end-requires-clause-count : goal.parts_end-requires-clause-count
parts_end-requires-clause-count g c =
    let P = g.N.Naming.program in
    let count : length (arguments_at P.skeleton c.args.node.0) ≡ c.argument_count-count.result =
    subst (λ (Q : NamedProgram). length (arguments_at Q.skeleton c.args.node.0) ≡ c.argument_count-count.result) (sym c.requires.program)
    (sym c.argument_count-count.ensures) in
    omega arith

pub returns-clause-onward : goal.returns-clause-onward
returns-clause-onward g c = λ next e.
    let P = g.N.Naming.program in
    let row = c.args.cells.now in
    let last : ℕ = c.argument_count-count.result - 1 in
    let count : length (arguments_at P.skeleton c.args.node.0) ≡ c.argument_count-count.result =
    subst (λ (Q : NamedProgram). length (arguments_at Q.skeleton c.args.node.0) ≡ c.argument_count-count.result) (sym c.requires.program)
    (sym c.argument_count-count.ensures) in
    let is = part_found P row c.args.node c.args.base c.args.loaded.now c.argument.result.0 last c.resolve.result c.requires.program
    c.resolve.ensures c.argument.ensures.node in
    let same : c.resolve.result ≡ next = cc in
    part_goes_on P row c.args.floor c.args.node c.args.base last c.resolve.result next c.requires.falls c.requires.in_range (omega arith) is same
    (c.parts_end.ensures c.if-not-parts_end.false)
