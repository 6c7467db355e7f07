use Rattle.std.proofs.Common.{ℕ, ◌≡◌, ◌≢◌, [], List, length, sym, subst, rules}
use Rattle.and_model.specs.Terms.{framed}
use Rattle.and_model.specs.declared.reference.Ref.TheVariants.{Cell, Node}
use Rattle.and_program.specs.Loaded.{shape_at, arguments_at}
use Rattle.and_program.specs.Shown.{shown}
use Rattle.and_program.specs.Skeletons.{node_term}
use Rattle.and_cells.specs.Ranges.{NamedProgram, IsInRangeOrHalf}
use Rattle.and_cells.specs.Rows.{plain}
use Rattle.and_cells.specs.Seen.{LeadsTo}
use Rattle.and_branch_laws.specs.Judging.{outside}
use Rattle.and_branch_laws.specs.Variables.{cells_from}
use Rattle.and_determinacy.specs.Seeing.{Meets, argument_pairs}
use Rattle.and_determinacy.specs.declared.seeing.Sight.TheVariants.{Fits, Apart}
use Rattle.and_determinacy.proofs.Parted.{kinds_apart, led_parted}
use Rattle.and_determinacy.proofs.SureParts.{led_meets, structure_meets}
use Rattle.and_determinacy.proofs.SureRefs.{solid_node}
use Rattle.and_determinacy.proofs.SureSteps.{frame, nothing_meets}
use Rattle.and_determinacy.proofs.seeing.constant_meets.Goals as goal

pub returns-in-Cell-clause-meets : goal.returns-in-Cell-clause-meets
returns-in-Cell-clause-meets g c = λ e.
    let P = g.N.Naming.program in
    let row = c.args.cells.now in
    led_meets P row c.args.held.now.items c.fill.new.held.items c.args.given.now.items c.fill.new.given.items c.args.part (Cell c.in-Cell.cell)
    (framed outside (node_term P.skeleton.nodes c.args.asked.0)) c.requires.in_range
    (subst (IsInRangeOrHalf P (length row)) c.in-Cell.is c.end_of.ensures.in_range)
    (subst (LeadsTo (plain row) c.args.part) c.in-Cell.is c.end_of.ensures.leads) (c.fill.ensures.meets e)

pub returns-in-Node-clause-meets : goal.returns-in-Node-clause-meets
returns-in-Node-clause-meets g c = λ e.
    let P = g.N.Naming.program in
    let row = c.args.cells.now in
    let held = c.args.held.now.items in
    let given = c.args.given.now.items in
    let node = c.in-Node.node in
    let base = c.in-Node.base in
    let asked = c.args.asked.0 in
    let one : c.constants_meet.result ≡ Fits = search rules in
    let kinds = subst (λ (Q : NamedProgram). shown (shape_at Q.skeleton node.0) ≡ shown (shape_at Q.skeleton asked)) (sym c.requires.program)
    (c.constants_meet.ensures.kind one) in
    let empty = subst (λ (Q : NamedProgram). arguments_at Q.skeleton node.0 ≡ []) (sym c.requires.program) (c.constants_meet.ensures.none one) in
    let fits = subst (IsInRangeOrHalf P (length row)) c.in-Node.is c.end_of.ensures.in_range in
    led_meets P row held held given given c.args.part (Node node base) (framed outside (node_term P.skeleton.nodes asked)) c.requires.in_range fits
    (subst (LeadsTo (plain row) c.args.part) c.in-Node.is c.end_of.ensures.leads)
    (structure_meets P c.requires.falls row held held given given node base asked kinds c.requires.solid
    (subst (λ (ns : List ℕ). Meets P row held held given given (argument_pairs P base ns (arguments_at P.skeleton asked))) (sym empty)
    (nothing_meets P row held given)))

pub returns-in-Cell-clause-apart : goal.returns-in-Cell-clause-apart
returns-in-Cell-clause-apart g c = λ e. absurd (c.fill.ensures.apart e)

pub returns-in-Node-clause-apart : goal.returns-in-Node-clause-apart
returns-in-Node-clause-apart g c = λ e.
    let P = g.N.Naming.program in
    let row = c.args.cells.now in
    let node = c.in-Node.node in
    let base = c.in-Node.base in
    let asked = c.args.asked.0 in
    let one : c.constants_meet.result ≡ Apart = search rules in
    let differ = subst (λ (Q : NamedProgram). shown (shape_at Q.skeleton node.0) ≢ shown (shape_at Q.skeleton asked)) (sym c.requires.program)
    (c.constants_meet.ensures.apart one) in
    let fits = subst (IsInRangeOrHalf P (length row)) c.in-Node.is c.end_of.ensures.in_range in
    led_parted P row c.args.given.now.items c.args.part (Node node base) (framed outside (node_term P.skeleton.nodes asked)) c.requires.in_range fits
    (subst (LeadsTo (plain row) c.args.part) c.in-Node.is c.end_of.ensures.leads)
    (λ s solves noted met.
    kinds_apart P c.requires.falls node.0 asked differ (solid_node P row (length row) node base fits) c.requires.solid (cells_from base) frame s met.0)
