use Rattle.std.proofs.Common.{rules, ◌≡◌, ap, sym, subst, refl}
use Rattle.and_histories.specs.PlainTree.{Event, Reply}
use Rattle.and_tree.specs.Counted.{tally}
use Rattle.and_tree.specs.Plain.{Turns}
use Rattle.and_tree.specs.Replies.{seen_of}
use Rattle.and_tree.specs.declared.replies.CellSeen.TheVariants.{Free}
use Rattle.and_tree.proofs.Turning.{turn_spent, turn_not_free, turn_publish, published_left, free_or_not, cell_before}
use Rattle.and_tree.proofs.plain.PlainTree.publish.Goals as goal

pub returns-then-own_serial-eq-LAST_SERIAL-clause-spent : goal.returns-then-own_serial-eq-LAST_SERIAL-clause-spent
returns-then-own_serial-eq-LAST_SERIAL-clause-spent g c = λ back e.
    let p = c.self.inside in
    let is_cell = cell_before c.args.self.now p.places (tally p.counts) c.args.cell c.self.view_is c.own_serial.ensures.is_cell in (
      search rules,
      turn_spent c.args.self.now p.places (tally p.counts) c.args.team c.args.cell c.own_serial.result (g.B.Keyed.key_of c.args.branch) c.self.view_is
          is_cell c.requires.own c.requires.hand c.own_serial.ensures.serial (search rules),
    )

pub returns-then-ne-clause-not_free : goal.returns-then-ne-clause-not_free
returns-then-ne-clause-not_free g c = λ back seen e.
    let p = c.self.inside in
    let found = c.seen-seen.result in
    let is_cell = cell_before c.args.self.now p.places (tally p.counts) c.args.cell c.self.view_is c.own_serial.ensures.is_cell in
    let other : found ≡ Free → ⊥ = search rules in
    let same : seen ≡ found = cc in (
      cc,
      subst (λ s. Turns (Event.publish c.args.team c.args.cell (g.B.Keyed.key_of c.args.branch)) (Reply.not_free (seen_of s)) c.args.self.now
          c.args.self.now) (sym same) (turn_not_free c.args.self.now p.places (tally p.counts) c.args.team c.args.cell c.own_serial.result
          (g.B.Keyed.key_of c.args.branch) (seen_of found) c.self.view_is is_cell c.requires.own c.requires.hand c.own_serial.ensures.serial
          c.if-own_serial-eq-LAST_SERIAL.false c.seen-seen.ensures (λ free. other (free_or_not found free))),
    )

pub returns-clause-done : goal.returns-clause-done
returns-clause-done g c = λ e.
    let p = c.self.inside in
    let found = c.seen-seen.result in
    let is_cell = cell_before c.args.self.now p.places (tally p.counts) c.args.cell c.self.view_is c.own_serial.ensures.is_cell in
    let free : found ≡ Free = search rules in
    turn_publish c.args.self.now p.places c.take_out.new.self c.open_cell.new.self (tally p.counts) c.args.team c.args.cell c.own_serial.result
    (g.B.Keyed.key_of c.args.branch) c.key.result.now (seen_of found) c.self.view_is is_cell c.requires.own c.requires.hand
    c.own_serial.ensures.serial c.if-own_serial-eq-LAST_SERIAL.false c.seen-seen.ensures (ap seen_of free) c.key.ensures c.take_out.ensures
    c.open_cell.ensures

pub invariant_of-self : goal.invariant_of-self
invariant_of-self g c =
    let p = c.self.inside in
    published_left c.args.self.now p.places c.open_cell.new.self (tally p.counts) (tally p.counts) p.left c.args.team c.args.cell
    (g.B.Keyed.key_of c.args.branch) c.self.view_is c.self.invariant (returns-clause-done g c refl)
