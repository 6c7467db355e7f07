use Rattle.std.proofs.Common.{ℕ, ◌≡◌, ◌+◌, ◌-◌, ◌∷◌, [], Ok, true, length, get_or, sym, ap, ◌∙◌, subst, arith, rules}
use Rattle.and_model.specs.declared.reference.Ref.{Ref}
use Rattle.and_model.specs.declared.reference.Ref.TheVariants.{Cell, Node}
use Rattle.and_program.specs.Loaded.{arguments_at, skeleton_of}
use Rattle.and_program.specs.Shown.{count_of}
use Rattle.and_cells.specs.Ranges.{NamedProgram, IsInRangeOrHalf}
use Rattle.and_cells.specs.Rows.{plain}
use Rattle.and_cells.specs.Seen.{LeadsTo}
use Rattle.and_cells.specs.Parts.{named, part_at}
use Rattle.and_determinacy.specs.Seeing.{HoldNone, IsPart}
use Rattle.and_determinacy.proofs.SureParts.{argument_part}
use Rattle.and_determinacy.proofs.SureRefs.{led_holds, number_holds, bare_holds, last_holds, solid_node}
use Rattle.and_determinacy.proofs.seeing.holds_none.Goals as goal

pub loop-turn-init : goal.loop-turn-init
loop-turn-init g c = record { part = c.requires.part; owed = λ has holds. holds }

pub returns-in-Cell : goal.returns-in-Cell
returns-in-Cell g c = λ e.
    let P = g.N.Naming.program in
    let row = c.args.cells.now in
    let at = c.loop-turn.at in
    let has = c.hold.new.held.items in
    c.loop-turn.invariant.owed has
    (led_holds P row c.loop-turn.held.items has at (Cell c.in-Cell.cell) c.loop-turn.invariant.part
    (subst (IsInRangeOrHalf P (length row)) c.in-Cell.is c.end_of.ensures.in_range)
    (subst (LeadsTo (plain row) at) c.in-Cell.is c.end_of.ensures.leads) (c.hold.ensures e))

pub returns-then-count-eq0 : goal.returns-then-count-eq0
returns-then-count-eq0 g c = λ e.
    let P = g.N.Naming.program in
    let row = c.args.cells.now in
    let at = c.loop-turn.at in
    let held = c.loop-turn.held.items in
    let node = c.in-Node.node in
    let base = c.in-Node.base in
    let nothing : c.count_in-count.result ≡ 0 = search rules in
    let fits = subst (IsInRangeOrHalf P (length row)) c.in-Node.is c.end_of.ensures.in_range in
    let counted = subst (λ (Q : NamedProgram). count_of c.kind.result ≡ length (arguments_at Q.skeleton node.0)) (sym c.requires.program)
    c.kind.ensures.count in
    c.loop-turn.invariant.owed held
    (led_holds P row held held at (Node node base) c.loop-turn.invariant.part fits (subst (LeadsTo (plain row) at) c.in-Node.is c.end_of.ensures.leads)
    (bare_holds P row c.requires.falls held node base fits (sym (c.count_in-count.ensures ∙ counted) ∙ nothing)))

pub returns-in-Number : goal.returns-in-Number
returns-in-Number g c = λ e.
    let P = g.N.Naming.program in
    let row = c.args.cells.now in
    let at = c.loop-turn.at in
    let held = c.loop-turn.held.items in
    c.loop-turn.invariant.owed held
    (number_holds P row held at c.in-Number.field-0 c.loop-turn.invariant.part (subst (LeadsTo (plain row) at) c.in-Number.is c.end_of.ensures.leads))

pub loop-turn-preserved : goal.loop-turn-preserved
loop-turn-preserved g c =
    let P = g.N.Naming.program in
    let Q = named c.args.loaded.now in
    let row = c.args.cells.now in
    let words = length row in
    let at = c.loop-turn.at in
    let held = c.loop-turn.held.items in
    let mid = c.parts_hold_none.new.held.items in
    let node = c.in-Node.node in
    let base = c.in-Node.base in
    let args = arguments_at (skeleton_of c.args.loaded.now) node.0 in
    let last : ℕ = c.count_in-count.result - 1 in
    let fits = subst (IsInRangeOrHalf P words) c.in-Node.is c.end_of.ensures.in_range in
    let leads = subst (LeadsTo (plain row) at) c.in-Node.is c.end_of.ensures.leads in
    let counted : last + 1 ≡ length args = omega (arith, c.if-count-eq0.false, c.count_in-count.ensures, c.kind.ensures.count) in
    let part_is : c.resolve-at.result ≡ part_at Q base (get_or args last 0) = c.resolve-at.ensures ∙ ap (part_at Q base) c.argument.ensures.node in
    let holding : c.in_ok-none-in-Node.none ≡ true = search rules in
    let before = c.in_ok-none-in-Node.ensures (ap (λ b. Ok b) holding) in
    record {
      part = subst (IsPart P words) (sym part_is)
          (argument_part P Q c.requires.program c.requires.falls words node base last fits (omega (arith, counted)));
      owed = λ has holds.
          c.loop-turn.invariant.owed has
          (led_holds P row held has at (Node node base) c.loop-turn.invariant.part fits leads
          (last_holds P row c.requires.falls held mid has node base last (solid_node P row words node base fits)
          (subst (λ (R : NamedProgram). last + 1 ≡ length (arguments_at R.skeleton node.0)) (sym c.requires.program) counted) before
          (subst (λ (r : Ref). HoldNone P row mid has (r ∷ []))
          (part_is ∙ ap (λ (R : NamedProgram). part_at R base (get_or (arguments_at R.skeleton node.0) last 0)) (sym c.requires.program)) holds)));
    }
