use Rattle.std.proofs.Common.{◌≡◌, length, sym, ◌∙◌, subst, rules}
use Rattle.and_model.specs.declared.reference.Ref.TheVariants.{Cell, Node}
use Rattle.and_program.specs.Loaded.{arguments_at}
use Rattle.and_cells.specs.Ranges.{NamedProgram, IsInRangeOrHalf}
use Rattle.and_cells.specs.Rows.{plain}
use Rattle.and_cells.specs.Seen.{LeadsTo}
use Rattle.and_program.specs.Shown.{count_of}
use Rattle.and_determinacy.proofs.SureRefs.{led_holds, number_holds, bare_holds}
use Rattle.and_determinacy.proofs.seeing.part_holds_none.Goals as goal

pub returns-in-Cell : goal.returns-in-Cell
returns-in-Cell g c = λ e.
    let P = g.N.Naming.program in
    let row = c.args.cells.now in
    led_holds P row c.args.held.now.items c.hold.new.held.items c.args.part (Cell c.in-Cell.cell) c.requires.part
    (subst (IsInRangeOrHalf P (length row)) c.in-Cell.is c.end_of.ensures.in_range)
    (subst (LeadsTo (plain row) c.args.part) c.in-Cell.is c.end_of.ensures.leads) (c.hold.ensures e)

pub returns-in-Node : goal.returns-in-Node
returns-in-Node g c = λ e.
    let P = g.N.Naming.program in
    let row = c.args.cells.now in
    let held = c.args.held.now.items in
    let node = c.in-Node.node in
    let base = c.in-Node.base in
    let nothing : c.count_in.result ≡ 0 = search rules in
    let fits = subst (IsInRangeOrHalf P (length row)) c.in-Node.is c.end_of.ensures.in_range in
    let counted = subst (λ (Q : NamedProgram). count_of c.kind.result ≡ length (arguments_at Q.skeleton node.0)) (sym c.requires.program)
    c.kind.ensures.count in
    led_holds P row held held c.args.part (Node node base) c.requires.part fits
    (subst (LeadsTo (plain row) c.args.part) c.in-Node.is c.end_of.ensures.leads)
    (bare_holds P row c.requires.falls held node base fits (sym (c.count_in.ensures ∙ counted) ∙ nothing))

pub returns-in-Number : goal.returns-in-Number
returns-in-Number g c = λ e.
    let P = g.N.Naming.program in
    let row = c.args.cells.now in
    number_holds P row c.args.held.now.items c.args.part c.in-Number.field-0 c.requires.part
    (subst (LeadsTo (plain row) c.args.part) c.in-Number.is c.end_of.ensures.leads)
