use Rattle.std.proofs.Common.{sym, subst, false}
use Rattle.and_model.specs.declared.reference.Ref.TheVariants.{Cell, Node}
use Rattle.and_program.specs.Skeletons.{AllFall}
use Rattle.and_cells.specs.Ranges.{NamedProgram}
use Rattle.and_cells.specs.Ends.{Ends}
use Rattle.and_heads.proofs.ending.part_ends.Goals as goal

pub returns-then-cell-floor : goal.returns-then-cell-floor
returns-then-cell-floor g c = λ _.
    subst (Ends g.N.Naming.program c.args.cells.now c.args.floor false) (sym c.in-Cell.is) (Ends.low (Cell c.in-Cell.cell) c.if-cell-floor.true)

pub returns-else-cell-floor : goal.returns-else-cell-floor
returns-else-cell-floor g c = λ is.
    subst (Ends g.N.Naming.program c.args.cells.now c.args.floor false) (sym c.in-Cell.is) (c.word_ends.ensures is)

pub node_ends-requires-clause-falls : goal.node_ends-requires-clause-falls
node_ends-requires-clause-falls g c = subst (λ (Q : NamedProgram). AllFall 0 Q.skeleton.nodes) c.requires.program c.requires.falls

pub returns-in-Node : goal.returns-in-Node
returns-in-Node g c = λ is.
    let P = g.N.Naming.program in
    let row = c.args.cells.now in
    subst (Ends P row c.args.floor false) (sym c.in-Node.is)
    (subst (λ (Q : NamedProgram). Ends Q row c.args.floor false (Node c.in-Node.node c.in-Node.base)) (sym c.requires.program)
    (c.node_ends.ensures is row c.args.floor c.in-Node.base))

pub returns-in-Number : goal.returns-in-Number
returns-in-Number g c = λ _.
    subst (Ends g.N.Naming.program c.args.cells.now c.args.floor false) (sym c.in-Number.is) (Ends.number c.in-Number.field-0)
