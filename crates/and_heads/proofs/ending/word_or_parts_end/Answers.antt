use Rattle.std.proofs.Common.{◌≡◌, length, sym, ◌∙◌, subst, arith}
use Rattle.and_model.specs.declared.reference.Ref.TheVariants.{Cell}
use Rattle.and_program.specs.Loaded.{arguments_at}
use Rattle.and_cells.specs.Ranges.{NamedProgram, CanHold}
use Rattle.and_cells.specs.Ends.{Ends}
use Rattle.and_circles.proofs.Sufficing.{structure_ends}
use Rattle.and_heads.proofs.Looking.{number_word, cell_word, node_word}
use Rattle.and_heads.proofs.ending.word_or_parts_end.Goals as goal

pub parts_end-requires-clause-in_range : goal.parts_end-requires-clause-in_range
parts_end-requires-clause-in_range g c =
    subst (CanHold g.N.Naming.program (length c.args.cells.now) c.args.cell) (sym c.word.ensures.value ∙ c.in-Node.is) (c.word.ensures.sound.fits c.args.cell)

pub parts_end-requires-clause-count : goal.parts_end-requires-clause-count
parts_end-requires-clause-count g c =
    let P = g.N.Naming.program in
    let count : length (arguments_at P.skeleton c.in-Node.node.0) ≡ c.argument_count-count.result =
    subst (λ (Q : NamedProgram). length (arguments_at Q.skeleton c.in-Node.node.0) ≡ c.argument_count-count.result) (sym c.requires.program)
    (sym c.argument_count-count.ensures) in
    omega arith

pub returns-in-Node : goal.returns-in-Node
returns-in-Node g c = λ is.
    let P = g.N.Naming.program in
    let row = c.args.cells.now in
    let count : length (arguments_at P.skeleton c.in-Node.node.0) ≡ c.argument_count-count.result =
    subst (λ (Q : NamedProgram). length (arguments_at Q.skeleton c.in-Node.node.0) ≡ c.argument_count-count.result) (sym c.requires.program)
    (sym c.argument_count-count.ensures) in
    node_word P row 0 c.args.cell c.word.result c.word.ensures.value c.in-Node.node c.in-Node.base c.in-Node.is
    (structure_ends P row c.in-Node.node c.in-Node.base 0 (λ place below. c.parts_end.ensures is place (omega arith)))

pub is_free-requires : goal.is_free-requires
is_free-requires g c =
    let P = g.N.Naming.program in
    let row = c.args.cells.now in
    let held : CanHold P (length row) c.args.cell (Cell c.in-Cell.other) =
    subst (CanHold P (length row) c.args.cell) (sym c.word.ensures.value ∙ c.in-Cell.is) (c.word.ensures.sound.fits c.args.cell) in
    let below = c.requires.in_row in
    omega arith

pub returns-in-Cell : goal.returns-in-Cell
returns-in-Cell g c = λ is.
    cell_word g.N.Naming.program c.args.cells.now 0 c.args.cell c.word.result c.word.ensures.value c.in-Cell.other c.in-Cell.is
    (Ends.free c.in-Cell.other (c.is_free.ensures is))

pub returns-in-Number : goal.returns-in-Number
returns-in-Number g c = λ _.
    number_word g.N.Naming.program c.args.cells.now 0 c.args.cell c.word.result c.word.ensures.value c.in-Number.field-0 c.in-Number.is
