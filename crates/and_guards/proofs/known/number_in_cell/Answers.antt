use Rattle.std.proofs.Common.{rules, ℤ, FitsSigned, w64, refl, sym, subst, ◌∙◌}
use Rattle.std.proofs.lemmas.Int.{ints, to_z-of_z}
use Rattle.std.proofs.lemmas.Option.{IfSome_then}
use Rattle.and_model.specs.declared.reference.Ref.TheVariants.{Cell, Node, Number}
use Rattle.and_cells.specs.Ranges.{NamedProgram}
use Rattle.and_cells.specs.Rows.{plain}
use Rattle.and_cells.specs.Seen.{here}
use Rattle.and_arith.specs.Glances.{IsNumber}
use Rattle.and_arith.proofs.Telling.{pair_told}
use Rattle.std.specs.Prelude.{IfSome}
use Rattle.and_guards.proofs.KnownNumbers.{leads_further, set_in_range, set_written, number_further}
use Rattle.and_guards.proofs.known.number_in_cell.Goals as goal

pub loop-next-init : goal.loop-next-init
loop-next-init g c = record { leads = here (Cell c.args.from); in_range = c.requires.in_range }

pub loop-next-preserved : goal.loop-next-preserved
loop-next-preserved g c =
    let P = g.N.Naming.program in
    let row = c.args.cells.now in
    let i = c.loop-next.invariant in
    let is = sym c.word.ensures.value ∙ c.in-Cell.is in
    let to = Cell c.in-Cell.next in record {
      leads = leads_further P row c.args.from c.loop-next.cell i.leads i.in_range c.word.ensures.sound to is (λ e. absurd (cc));
      in_range = set_in_range P row c.args.from c.loop-next.cell i.leads i.in_range c.word.ensures.sound to is (λ e. absurd (cc));
    }

pub returns-in-Number : goal.returns-in-Number
returns-in-Number g c =
    let P = g.N.Naming.program in
    let row = c.args.cells.now in
    let i = c.loop-next.invariant in
    let is = sym c.word.ensures.value ∙ c.in-Number.is in
    let to = Number c.in-Number.pair in
    let sound = c.word.ensures.sound in
    let z : ℤ = c.number_of_pair.result in
    let fits : FitsSigned w64 z = search (rules, ints) in
    number_further P row c.args.from c.loop-next.cell i.leads i.in_range sound to is (λ e. absurd (cc)) _
    (pair_told P row c.in-Number.pair to z _ sound refl
    (set_written P row c.args.from c.loop-next.cell i.leads i.in_range sound to is (λ e. absurd (cc))) fits (to_z-of_z w64 z fits)
    c.number_of_pair.ensures.value)

pub returns-in-Node : goal.returns-in-Node
returns-in-Node g c =
    let P = g.N.Naming.program in
    let row = c.args.cells.now in
    let i = c.loop-next.invariant in
    let is = sym c.word.ensures.value ∙ c.in-Node.is in
    let to = Node c.in-Node.node c.in-Node.base in
    IfSome_then c.literal.result
    (subst (λ (Q : NamedProgram). IfSome c.literal.result (IsNumber Q (plain row) to)) (sym c.requires.program)
    (c.literal.ensures row c.in-Node.base))
    (number_further P row c.args.from c.loop-next.cell i.leads i.in_range c.word.ensures.sound to is (λ e. absurd (cc)))
