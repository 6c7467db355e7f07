use Rattle.std.proofs.Common.{◌<◌, arith}
use Rattle.std.proofs.lemmas.Bool.Decides.{nat_tests}
use Rattle.and_model.specs.declared.reference.Ref.TheVariants.{Cell, Node}
use Rattle.and_cells.specs.Ends.{Ends}
use Rattle.and_heads.proofs.Looking.{number_word, cell_word, node_word}
use Rattle.and_heads.proofs.ending.ends_below.Goals as goal

pub returns-in-Node-clause-ends : goal.returns-in-Node-clause-ends
returns-in-Node-clause-ends g c = λ is.
    let below : c.in-Node.base < c.args.floor = grind (arith, nat_tests, is) in
    node_word g.N.Naming.program c.args.cells.now c.args.floor c.args.cell c.word.result c.word.ensures.value c.in-Node.node c.in-Node.base c.in-Node.is
    (Ends.low (Node c.in-Node.node c.in-Node.base) below)

pub returns-in-Cell-clause-ends : goal.returns-in-Cell-clause-ends
returns-in-Cell-clause-ends g c = λ is.
    let below : c.in-Cell.other < c.args.floor = grind (arith, nat_tests, is) in
    cell_word g.N.Naming.program c.args.cells.now c.args.floor c.args.cell c.word.result c.word.ensures.value c.in-Cell.other c.in-Cell.is
    (Ends.low (Cell c.in-Cell.other) below)

pub returns-in-Number-clause-ends : goal.returns-in-Number-clause-ends
returns-in-Number-clause-ends g c = λ _.
    number_word g.N.Naming.program c.args.cells.now c.args.floor c.args.cell c.word.result c.word.ensures.value c.in-Number.field-0 c.in-Number.is
