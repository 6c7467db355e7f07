use Rattle.std.proofs.Common.{length, sym, ◌∙◌, subst, false, arith}
use Rattle.and_model.specs.declared.reference.Ref.TheVariants.{Cell, Node}
use Rattle.and_program.specs.Skeletons.{AllFall}
use Rattle.and_cells.specs.Ranges.{NamedProgram, CanHold}
use Rattle.and_cells.specs.Ends.{Ends}
use Rattle.and_heads.proofs.Looking.{free_word, number_word, cell_word, node_word}
use Rattle.and_heads.proofs.ending.word_ends.Goals as goal

pub is_free-requires-in-Cell : goal.is_free-requires-in-Cell
is_free-requires-in-Cell g c =
    let P = g.N.Naming.program in
    let row = c.args.cells.now in
    let held : CanHold P (length row) c.args.cell (Cell c.in-Cell.other) =
    subst (CanHold P (length row) c.args.cell) (sym c.word.ensures.value ∙ c.in-Cell.is) (c.word.ensures.sound.fits c.args.cell) in
    let below = c.requires.in_row in
    omega arith

pub returns-then-is_free : goal.returns-then-is_free
returns-then-is_free g c = λ _. Ends.free c.args.cell (c.is_free.ensures c.if-is_free.true)

pub returns-in-Free : goal.returns-in-Free
returns-in-Free g c = λ _. free_word g.N.Naming.program c.args.cells.now c.args.floor c.args.cell c.word.result c.word.ensures.value c.in-Free.is

pub returns-in-Number : goal.returns-in-Number
returns-in-Number g c = λ _.
    number_word g.N.Naming.program c.args.cells.now c.args.floor c.args.cell c.word.result c.word.ensures.value c.in-Number.field-0 c.in-Number.is

pub returns-in-Cell : goal.returns-in-Cell
returns-in-Cell g c = λ is.
    cell_word g.N.Naming.program c.args.cells.now c.args.floor c.args.cell c.word.result c.word.ensures.value c.in-Cell.other c.in-Cell.is
    (Ends.free c.in-Cell.other (c.is_free-in-Cell.ensures is))

pub node_ends-requires-clause-falls : goal.node_ends-requires-clause-falls
node_ends-requires-clause-falls g c = subst (λ (Q : NamedProgram). AllFall 0 Q.skeleton.nodes) c.requires.program c.requires.falls

pub returns-in-Node : goal.returns-in-Node
returns-in-Node g c = λ is.
    let P = g.N.Naming.program in
    let row = c.args.cells.now in
    node_word P row c.args.floor c.args.cell c.word.result c.word.ensures.value c.in-Node.node c.in-Node.base c.in-Node.is
    (subst (λ (Q : NamedProgram). Ends Q row c.args.floor false (Node c.in-Node.node c.in-Node.base)) (sym c.requires.program)
    (c.node_ends.ensures is row c.args.floor c.in-Node.base))
