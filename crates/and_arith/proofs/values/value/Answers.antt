use Rattle.std.proofs.Common.{◌≡◌, [], refl, ap, sym, ◌∙◌, subst}
use Rattle.and_program.specs.Skeletons.{AllFall}
use Rattle.and_cells.specs.Ranges.{NamedProgram}
use Rattle.and_cells.specs.Parts.{named}
use Rattle.and_cells.specs.Seen.{FoundFree}
use Rattle.and_cells.proofs.Chains.{reads_more}
use Rattle.and_arith.specs.Turns.{stand}
use Rattle.and_arith.specs.declared.walk.Turn.TheVariants.{Over}
use Rattle.and_arith.proofs.Turning.{turn_goes}
use Rattle.and_arith.proofs.Concluding.{coherent_once, begins_with, paid_on, is_ready, finished_value, finished_lacks, finished_paid, waits_reached}
use Rattle.and_arith.proofs.Concluding.{waits_free, waits_first, waits_paid, put_off_paid, spends_by, begun}
use Rattle.and_arith.proofs.values.value.Goals as goal

falls : (N P : NamedProgram) → N ≡ P → AllFall 0 P.skeleton.nodes → AllFall 0 N.skeleton.nodes
falls N P same fall = subst (λ (Q : NamedProgram). AllFall 0 Q.skeleton.nodes) (sym same) fall

pub loop-value-init : goal.loop-value-init
loop-value-init g c =
    let P = g.C.Cells.program in
    let first = g.C.Cells.seen c.args.cells.now in
    let fall = falls P (named c.args.loaded.now) c.requires.program c.skeleton_is_of_the_program.ensures.skeleton.0 in
    let tasks = begun c.begin.result _ (sym c.is_err.ensures.value ∙ c.if-is_err.false) c.begin.ensures.tasks in
    let both = begins_with P fall first c.args.expression c.args.fuel.now _ _ _ (coherent_once first (g.met.C.Cells.coherent c.args.cells.now))
    c.requires.in_range c.requires.written tasks c.begin.ensures.values c.begin.ensures.taken in record {
      over = refl;
      grew = g.met.C.Cells.grew_nothing c.args.cells.now;
      settings = [];
      stands = both.0;
      paid = both.1;
    }

pub take_turn-requires-clause-ready : goal.take_turn-requires-clause-ready
take_turn-requires-clause-ready g c =
    let i = c.loop-value.invariant in
    let P = g.C.Cells.program in
    let fall = falls P (named c.args.loaded.now) c.requires.program c.skeleton_is_of_the_program.ensures.skeleton.0 in
    is_ready P fall (g.C.Cells.seen c.args.cells.now) c.args.expression i.settings (g.C.Cells.seen c.loop-value.cells) _ _ _ c.loop-value.fuel i.stands

pub loop-value-smaller : goal.loop-value-smaller
loop-value-smaller g c =
    let i = c.loop-value.invariant in
    let P = g.C.Cells.program in
    let fall = falls P (named c.args.loaded.now) c.requires.program c.skeleton_is_of_the_program.ensures.skeleton.0 in
    let new = g.C.Cells.seen c.take_turn.new.cells in
    let goes = turn_goes P fall (g.C.Cells.seen c.args.cells.now) c.args.expression i.settings
    (stand (g.C.Cells.seen c.loop-value.cells) c.loop-value.work c.loop-value.fuel) (stand new c.take_turn.new.work c.take_turn.new.fuel)
    (coherent_once new (g.met.C.Cells.coherent c.take_turn.new.cells)) (c.in-Again.ensures.again refl) i.stands in
    goes.lighter

pub loop-value-preserved : goal.loop-value-preserved
loop-value-preserved g c =
    let i = c.loop-value.invariant in
    let P = g.C.Cells.program in
    let fall = falls P (named c.args.loaded.now) c.requires.program c.skeleton_is_of_the_program.ensures.skeleton.0 in
    let first = g.C.Cells.seen c.args.cells.now in
    let new = g.C.Cells.seen c.take_turn.new.cells in
    let was = stand (g.C.Cells.seen c.loop-value.cells) c.loop-value.work c.loop-value.fuel in
    let is = stand new c.take_turn.new.work c.take_turn.new.fuel in
    let goes = turn_goes P fall first c.args.expression i.settings was is (coherent_once new (g.met.C.Cells.coherent c.take_turn.new.cells))
    (c.in-Again.ensures.again refl) i.stands in record {
      over = c.take_turn.ensures.over ∙ i.over;
      grew = g.met.C.Cells.grew_on c.args.cells.now c.loop-value.cells c.take_turn.new.cells i.grew c.take_turn.ensures.grew;
      settings = goes.more;
      stands = goes.stands;
      paid = paid_on P fall first c.args.expression i.settings c.args.fuel.now was is goes i.paid;
    }

pub returns-in-Over-clause-reads : goal.returns-in-Over-clause-reads
returns-in-Over-clause-reads g c =
    reads_more (g.C.Cells.seen c.args.cells.now) (g.C.Cells.seen c.loop-value.cells) (g.C.Cells.seen c.take_turn.new.cells) c.loop-value.invariant.stands.reads
    c.take_turn.ensures.reads

pub returns-in-Over-clause-number : goal.returns-in-Over-clause-number
returns-in-Over-clause-number g c = λ z is.
    let i = c.loop-value.invariant in
    let P = g.C.Cells.program in
    let fall = falls P (named c.args.loaded.now) c.requires.program c.skeleton_is_of_the_program.ensures.skeleton.0 in
    finished_value P fall (g.C.Cells.seen c.args.cells.now) c.args.expression i.settings
    (stand (g.C.Cells.seen c.loop-value.cells) c.loop-value.work c.loop-value.fuel)
    (stand (g.C.Cells.seen c.take_turn.new.cells) c.take_turn.new.work c.take_turn.new.fuel) _
    (c.in-Over.ensures.number z (ap (λ v. Over v) is)) i.stands z refl

pub returns-in-Over-clause-no_value : goal.returns-in-Over-clause-no_value
returns-in-Over-clause-no_value g c = λ is.
    let i = c.loop-value.invariant in
    let P = g.C.Cells.program in
    let fall = falls P (named c.args.loaded.now) c.requires.program c.skeleton_is_of_the_program.ensures.skeleton.0 in
    finished_lacks P fall (g.C.Cells.seen c.args.cells.now) c.args.expression i.settings
    (stand (g.C.Cells.seen c.loop-value.cells) c.loop-value.work c.loop-value.fuel)
    (stand (g.C.Cells.seen c.take_turn.new.cells) c.take_turn.new.work c.take_turn.new.fuel) _ (c.in-Over.ensures.no_value (ap (λ v. Over v) is)) i.stands refl

pub returns-in-Over-clause-waits : goal.returns-in-Over-clause-waits
returns-in-Over-clause-waits g c = λ cell is.
    let i = c.loop-value.invariant in
    let P = g.C.Cells.program in
    let fall = falls P (named c.args.loaded.now) c.requires.program c.skeleton_is_of_the_program.ensures.skeleton.0 in
    let first = g.C.Cells.seen c.args.cells.now in
    let new = g.C.Cells.seen c.take_turn.new.cells in
    let was = stand (g.C.Cells.seen c.loop-value.cells) c.loop-value.work c.loop-value.fuel in
    let now = stand new c.take_turn.new.work c.take_turn.new.fuel in
    let once = coherent_once new (g.met.C.Cells.coherent c.take_turn.new.cells) in
    let stops = c.in-Over.ensures.waits cell (ap (λ v. Over v) is) in (
      subst (λ x. FoundFree (g.C.Cells.shared x) cell first new) i.over
          (waits_free P fall first c.args.expression i.settings c.args.fuel.now was now (g.C.Cells.shared (g.C.Cells.over c.loop-value.cells)) cell
          once stops i.stands),
      waits_reached P fall first c.args.expression i.settings c.args.fuel.now was now (g.C.Cells.shared (g.C.Cells.over c.loop-value.cells)) cell
          once stops i.stands,
      waits_first P fall first c.args.expression i.settings c.args.fuel.now was now (g.C.Cells.shared (g.C.Cells.over c.loop-value.cells)) cell
          once stops i.stands,
    )

pub returns-in-Over-clause-spends : goal.returns-in-Over-clause-spends
returns-in-Over-clause-spends g c =
    let i = c.loop-value.invariant in
    let P = g.C.Cells.program in
    let fall = falls P (named c.args.loaded.now) c.requires.program c.skeleton_is_of_the_program.ensures.skeleton.0 in
    let first = g.C.Cells.seen c.args.cells.now in
    let root = c.args.expression in
    let began = c.args.fuel.now in
    let new = g.C.Cells.seen c.take_turn.new.cells in
    let was = stand (g.C.Cells.seen c.loop-value.cells) c.loop-value.work c.loop-value.fuel in
    let now = stand new c.take_turn.new.work c.take_turn.new.fuel in
    let once = coherent_once new (g.met.C.Cells.coherent c.take_turn.new.cells) in
    spends_by P new root began c.take_turn.new.fuel c.in-Over.value
    (λ z is. finished_paid P fall first root i.settings was now _ (c.in-Over.ensures.number z (ap (λ v. Over v) is)) i.stands began i.paid)
    (λ is. finished_paid P fall first root i.settings was now _ (c.in-Over.ensures.no_value (ap (λ v. Over v) is)) i.stands began i.paid)
    (λ cell is. waits_paid P fall first root i.settings began was now (g.C.Cells.shared (g.C.Cells.over c.loop-value.cells)) cell once
    (c.in-Over.ensures.waits cell (ap (λ v. Over v) is)) i.stands i.paid)
    (λ is. put_off_paid P fall first root i.settings began was now (c.in-Over.ensures.put_off (ap (λ v. Over v) is)) i.stands i.paid)
