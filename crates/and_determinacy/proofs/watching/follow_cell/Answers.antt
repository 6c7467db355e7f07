use Rattle.std.proofs.Common.{ℕ, ◌≡◌, ◌<◌, List, length, sym, ap, ◌∙◌, subst}
use Rattle.and_model.specs.Store.{is_half}
use Rattle.and_model.specs.declared.numbers.NodeNo.{NodeNo}
use Rattle.and_model.specs.declared.reference.Ref.{Ref}
use Rattle.and_model.specs.declared.reference.Ref.TheVariants.{Free, Cell, Node, Number, Half}
use Rattle.and_cells.specs.Ranges.{NamedProgram, IsInRange, CanHold}
use Rattle.and_cells.specs.Rows.{IsSound}
use Rattle.and_cells.specs.Seen.{word_at}
use Rattle.and_determinacy.specs.Watching.{IsPutIfParted}
use Rattle.and_determinacy.proofs.Watched.{number_holds, half_holds, free_followed, past_followed, ended_followed, set_followed, through_followed}
use Rattle.and_determinacy.proofs.Watched.{structure_put}
use Rattle.and_determinacy.proofs.watching.follow_cell.Goals as goal

-- a structure to which a cell is set is in range
fits_at : (P : NamedProgram) (row : List Ref) (cell : ℕ) (word : Ref) (node : NodeNo) (base : ℕ) → IsSound P row → word ≡ word_at row cell
    → word ≡ Node node base → IsInRange P (length row) (Node node base)
fits_at P row cell word node base sound value is = subst (CanHold P (length row) cell) (sym value ∙ is) (sound.fits cell)

pub returns-in_ok-list_cell-in-Free : goal.returns-in_ok-list_cell-in-Free
returns-in_ok-list_cell-in-Free g c =
    free_followed g.N.Naming.program c.args.cells.now c.args.floor c.args.begun c.args.cell c.args.visits.now.items c.args.out.now.items
    c.list_cell.new.out.items (sym c.word-word.ensures.value ∙ c.in-Free.is) c.in_ok-list_cell-in-Free.ensures

pub returns-else-cell-floor : goal.returns-else-cell-floor
returns-else-cell-floor g c =
    past_followed g.N.Naming.program c.args.cells.now c.args.floor c.args.begun c.args.cell c.args.visits.now.items c.args.out.now.items
    (sym c.word-word.ensures.value ∙ c.in-Free.is) c.if-cell-floor.false

pub returns-in_ok-push-in-Cell : goal.returns-in_ok-push-in-Cell
returns-in_ok-push-in-Cell g c =
    set_followed g.N.Naming.program c.args.cells.now c.args.floor c.args.begun c.word-word.ensures.sound c.args.cell c.word-word.result c.args.visits.now.items
    c.push.new.self.items c.args.out.now.items c.requires.in_range (sym c.word-word.ensures.value)
    (λ e. let both : Cell c.in-Cell.field-0 ≡ Free = sym c.in-Cell.is ∙ e in cc) (ap is_half c.in-Cell.is) c.in_ok-push-in-Cell.ensures.items

pub put_structure-requires : goal.put_structure-requires
put_structure-requires g c =
    let P = g.N.Naming.program in
    let fits = fits_at P c.args.cells.now c.args.cell c.word-word.result c.in-Node.node c.in-Node.base c.word-word.ensures.sound c.word-word.ensures.value
    c.in-Node.is in
    subst (λ (Q : NamedProgram). c.in-Node.node.0 < length Q.skeleton.nodes) c.requires.program fits.0.there

pub returns-in_ok-put_structure-in-Node : goal.returns-in_ok-put_structure-in-Node
returns-in_ok-put_structure-in-Node g c =
    let P = g.N.Naming.program in
    let row = c.args.cells.now in
    let visits = c.args.visits.now.items in
    let new = c.put_structure.new.visits.items in
    let listed = c.args.out.now.items in
    let at = Node c.in-Node.node c.in-Node.base in
    let fits = fits_at P row c.args.cell c.word-word.result c.in-Node.node c.in-Node.base c.word-word.ensures.sound c.word-word.ensures.value c.in-Node.is in
    let put : IsPutIfParted P at visits new =
    subst (λ (Q : NamedProgram). IsPutIfParted Q at visits new) (sym c.requires.program) c.in_ok-put_structure-in-Node.ensures in
    through_followed P row c.args.floor c.args.begun c.args.cell at visits new listed listed (sym c.word-word.ensures.value ∙ c.in-Node.is)
    (λ e. let both : at ≡ Free = e in cc)
    (structure_put P row c.args.floor c.args.begun c.requires.falls c.in-Node.node c.in-Node.base fits visits new listed put)

pub returns-in-Number : goal.returns-in-Number
returns-in-Number g c =
    ended_followed g.N.Naming.program c.args.cells.now c.args.floor c.args.begun c.args.cell c.word-word.result c.args.visits.now.items c.args.out.now.items
    (sym c.word-word.ensures.value) (λ e. let both : Number c.in-Number.field-0 ≡ Free = sym c.in-Number.is ∙ e in cc)
    (λ n held. number_holds g.N.Naming.program c.args.cells.now c.in-Number.field-0 c.word-word.result n c.in-Number.is held)

pub returns-in-Half : goal.returns-in-Half
returns-in-Half g c =
    ended_followed g.N.Naming.program c.args.cells.now c.args.floor c.args.begun c.args.cell c.word-word.result c.args.visits.now.items c.args.out.now.items
    (sym c.word-word.ensures.value) (λ e. let both : Half c.in-Half.field-0 ≡ Free = sym c.in-Half.is ∙ e in cc)
    (λ n held. half_holds g.N.Naming.program c.args.cells.now c.in-Half.field-0 c.word-word.result n c.in-Half.is held)
