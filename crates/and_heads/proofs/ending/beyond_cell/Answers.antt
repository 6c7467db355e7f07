use Rattle.std.proofs.Common.{◌≡◌, length, sym, ◌∙◌, subst, arith}
use Rattle.and_model.specs.declared.reference.Ref.{Ref}
use Rattle.and_model.specs.declared.reference.Ref.TheVariants.{Free, Cell, Node}
use Rattle.and_cells.specs.Ranges.{CanHold, IsInRange}
use Rattle.and_cells.specs.Ends.{Ends}
use Rattle.and_heads.proofs.Looking.{free_word, number_word, cell_word, node_word, word_goes_on}
use Rattle.and_heads.proofs.ending.beyond_cell.Goals as goal

pub returns-then-cell-floor-clause-ended : goal.returns-then-cell-floor-clause-ended
returns-then-cell-floor-clause-ended g c = λ _. Ends.low (Cell c.args.cell) c.if-cell-floor.true

pub returns-in-Free-clause-ended : goal.returns-in-Free-clause-ended
returns-in-Free-clause-ended g c = λ _.
    free_word g.N.Naming.program c.args.cells.now c.args.floor c.args.cell c.word.result c.word.ensures.value c.in-Free.is

pub returns-in-Number-clause-ended : goal.returns-in-Number-clause-ended
returns-in-Number-clause-ended g c = λ _.
    number_word g.N.Naming.program c.args.cells.now c.args.floor c.args.cell c.word.result c.word.ensures.value c.in-Number.field-0 c.in-Number.is

pub returns-then-other-floor-clause-ended : goal.returns-then-other-floor-clause-ended
returns-then-other-floor-clause-ended g c = λ _.
    cell_word g.N.Naming.program c.args.cells.now c.args.floor c.args.cell c.word.result c.word.ensures.value c.in-Cell.other c.in-Cell.is
    (Ends.low (Cell c.in-Cell.other) c.if-other-floor.true)

pub returns-then-base-floor-clause-ended : goal.returns-then-base-floor-clause-ended
returns-then-base-floor-clause-ended g c = λ _.
    node_word g.N.Naming.program c.args.cells.now c.args.floor c.args.cell c.word.result c.word.ensures.value c.in-Node.node c.in-Node.base c.in-Node.is
    (Ends.low (Node c.in-Node.node c.in-Node.base) c.if-base-floor.true)

pub returns-else-other-floor-clause-onward : goal.returns-else-other-floor-clause-onward
returns-else-other-floor-clause-onward g c = λ next e.
    let P = g.N.Naming.program in
    let row = c.args.cells.now in
    let same : Cell c.in-Cell.other ≡ next = cc in
    let held : CanHold P (length row) c.args.cell (Cell c.in-Cell.other) =
    subst (CanHold P (length row) c.args.cell) (sym c.word.ensures.value ∙ c.in-Cell.is) (c.word.ensures.sound.fits c.args.cell) in
    let below = c.requires.in_row in
    let fits : IsInRange P (length row) (Cell c.in-Cell.other) = omega arith in
    word_goes_on P row c.args.floor c.args.cell c.word.result next c.word.ensures.value
    (λ none. let both : Cell c.in-Cell.other ≡ Free = sym c.in-Cell.is ∙ none in cc) (c.in-Cell.is ∙ same)
    (subst (IsInRange P (length row)) (sym c.in-Cell.is) fits)

pub returns-else-base-floor-clause-onward : goal.returns-else-base-floor-clause-onward
returns-else-base-floor-clause-onward g c = λ next e.
    let P = g.N.Naming.program in
    let row = c.args.cells.now in
    let here : Ref = Node c.in-Node.node c.in-Node.base in
    let same : here ≡ next = cc in
    let fits : IsInRange P (length row) here =
    subst (CanHold P (length row) c.args.cell) (sym c.word.ensures.value ∙ c.in-Node.is) (c.word.ensures.sound.fits c.args.cell) in
    word_goes_on P row c.args.floor c.args.cell c.word.result next c.word.ensures.value
    (λ none. let both : here ≡ Free = sym c.in-Node.is ∙ none in cc) (c.in-Node.is ∙ same)
    (subst (IsInRange P (length row)) (sym c.in-Node.is) fits)
