use Rattle.std.proofs.Common.{ℕ, ◌≡◌, [], refl, ap, sym, ◌∙◌, subst, List}
use Rattle.std.proofs.lemmas.Option.{same_Some}
use Rattle.std.specs.Prelude.{IfSome}
use Rattle.and_model.specs.declared.reference.Ref.{Ref}
use Rattle.and_model.specs.declared.reference.Ref.TheVariants.{Free, Cell}
use Rattle.and_program.specs.Skeletons.{AllFall}
use Rattle.and_cells.specs.Ranges.{NamedProgram}
use Rattle.and_cells.specs.Rows.{plain}
use Rattle.and_cells.specs.Seen.{Seen, word_at}
use Rattle.and_cells.specs.Parts.{named}
use Rattle.and_value_laws.specs.Values.{HasValue, LacksValue, Reaches, IsFirstFree}
use Rattle.and_arith.specs.Turns.{stand}
use Rattle.and_arith.specs.declared.walk.Turn.TheVariants.{Over}
use Rattle.and_value_laws.proofs.KnownTerms.{IsOnce}
use Rattle.and_arith.proofs.Turning.{turn_goes}
use Rattle.and_arith.proofs.Concluding.{begins_with, is_ready, finished_value, finished_lacks, waits_reached, waits_free, waits_first, begun}
use Rattle.and_arith.proofs.values.value_by_list.Goals as goal

falls : (N P : NamedProgram) → N ≡ P → AllFall 0 P.skeleton.nodes → AllFall 0 N.skeleton.nodes
falls N P same fall = subst (λ (Q : NamedProgram). AllFall 0 Q.skeleton.nodes) (sym same) fall

once : (row : List Ref) → IsOnce (plain row)
once row place q r a b = sym a.0 ∙ b.0

pub loop-value-init : goal.loop-value-init
loop-value-init g c =
    let P = g.N.Naming.program in
    let row = c.args.cells.now in
    let fall = falls P (named c.args.loaded.now) c.requires.program c.skeleton_is_of_the_program.ensures.skeleton.0 in
    let tasks = begun c.begin.result _ (sym c.is_err.ensures.value ∙ c.if-is_err.false) c.begin.ensures.tasks in
    let both = begins_with P fall (plain row) c.args.expression 0 _ _ _ (once row) c.requires.in_range c.requires.written tasks c.begin.ensures.values
    c.begin.ensures.taken in
    record { settings = []; stands = both.0 }

pub take_turn-requires-clause-ready : goal.take_turn-requires-clause-ready
take_turn-requires-clause-ready g c =
    let i = c.loop-value.invariant in
    let P = g.N.Naming.program in
    let fall = falls P (named c.args.loaded.now) c.requires.program c.skeleton_is_of_the_program.ensures.skeleton.0 in
    is_ready P fall (plain c.args.cells.now) c.args.expression i.settings (plain c.loop-value.cells) _ _ _ 1 i.stands

pub loop-value-smaller : goal.loop-value-smaller
loop-value-smaller g c =
    let i = c.loop-value.invariant in
    let P = g.N.Naming.program in
    let fall = falls P (named c.args.loaded.now) c.requires.program c.skeleton_is_of_the_program.ensures.skeleton.0 in
    let goes = turn_goes P fall (plain c.args.cells.now) c.args.expression i.settings (stand (plain c.loop-value.cells) c.loop-value.work 1)
    (stand (plain c.take_turn.new.cells) c.take_turn.new.work c.take_turn.new.fuel)
    (once c.take_turn.new.cells) (c.in-Again.ensures.again refl) i.stands in
    goes.lighter

pub loop-value-preserved : goal.loop-value-preserved
loop-value-preserved g c =
    let i = c.loop-value.invariant in
    let P = g.N.Naming.program in
    let fall = falls P (named c.args.loaded.now) c.requires.program c.skeleton_is_of_the_program.ensures.skeleton.0 in
    let goes = turn_goes P fall (plain c.args.cells.now) c.args.expression i.settings (stand (plain c.loop-value.cells) c.loop-value.work 1)
    (stand (plain c.take_turn.new.cells) c.take_turn.new.work c.take_turn.new.fuel)
    (once c.take_turn.new.cells) (c.in-Again.ensures.again refl) i.stands in
    record { settings = goes.more; stands = goes.stands }

-- the row is as it was at first
unchanged : (first was now : List Ref) → (plain was).told ≡ (plain first).told → (plain now).told ≡ (plain was).told → now ≡ first
unchanged first was now a b = same_Some now first (b ∙ a)

pub returns-in-Over-clause-number : goal.returns-in-Over-clause-number
returns-in-Over-clause-number g c = λ z is.
    let i = c.loop-value.invariant in
    let P = g.N.Naming.program in
    let fall = falls P (named c.args.loaded.now) c.requires.program c.skeleton_is_of_the_program.ensures.skeleton.0 in
    let row = unchanged c.args.cells.now c.loop-value.cells c.take_turn.new.cells i.stands.reads.told c.take_turn.ensures.reads.told in
    subst (λ x. HasValue P (plain x) c.args.expression z) row
    (finished_value P fall (plain c.args.cells.now) c.args.expression i.settings (stand (plain c.loop-value.cells) c.loop-value.work 1)
    (stand (plain c.take_turn.new.cells) c.take_turn.new.work c.take_turn.new.fuel) _
    (c.in-Over.ensures.number z (ap (λ v. Over v) is)) i.stands z refl)

pub returns-in-Over-clause-no_value : goal.returns-in-Over-clause-no_value
returns-in-Over-clause-no_value g c = λ is.
    let i = c.loop-value.invariant in
    let P = g.N.Naming.program in
    let fall = falls P (named c.args.loaded.now) c.requires.program c.skeleton_is_of_the_program.ensures.skeleton.0 in
    let row = unchanged c.args.cells.now c.loop-value.cells c.take_turn.new.cells i.stands.reads.told c.take_turn.ensures.reads.told in
    subst (λ x. LacksValue P (plain x) c.args.expression) row
    (finished_lacks P fall (plain c.args.cells.now) c.args.expression i.settings (stand (plain c.loop-value.cells) c.loop-value.work 1)
    (stand (plain c.take_turn.new.cells) c.take_turn.new.work c.take_turn.new.fuel) _
    (c.in-Over.ensures.no_value (ap (λ v. Over v) is)) i.stands refl)

-- a word that a look found free is free
free_at : (row : List Ref) (cell : ℕ) (before : Seen) → before.told ≡ (plain row).told → IfSome before.told (λ r. word_at r cell ≡ Free)
    → word_at row cell ≡ Free
free_at row cell before told free = subst (λ t. IfSome t (λ r. word_at r cell ≡ Free)) told free

pub returns-in-Over-clause-waits : goal.returns-in-Over-clause-waits
returns-in-Over-clause-waits g c = λ cell is.
    let i = c.loop-value.invariant in
    let P = g.N.Naming.program in
    let fall = falls P (named c.args.loaded.now) c.requires.program c.skeleton_is_of_the_program.ensures.skeleton.0 in
    let row = unchanged c.args.cells.now c.loop-value.cells c.take_turn.new.cells i.stands.reads.told c.take_turn.ensures.reads.told in
    let first = plain c.args.cells.now in
    let was = stand (plain c.loop-value.cells) c.loop-value.work 1 in
    let now = stand (plain c.take_turn.new.cells) c.take_turn.new.work c.take_turn.new.fuel in
    let one = once c.take_turn.new.cells in
    let stops = c.in-Over.ensures.waits cell (ap (λ v. Over v) is) in
    let free = waits_free P fall first c.args.expression i.settings 0 was now 0 cell one stops i.stands in (
      free_at c.args.cells.now cell free.before free.reads.told free.misses.free,
      subst (λ x. Reaches P (plain x) c.args.expression (Cell cell)) row
          (waits_reached P fall first c.args.expression i.settings 0 was now 0 cell one stops i.stands),
      subst (λ x. IsFirstFree P (plain x) c.args.expression cell) row
          (waits_first P fall first c.args.expression i.settings 0 was now 0 cell one stops i.stands),
    )
