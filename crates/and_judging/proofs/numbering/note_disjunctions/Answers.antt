use Rattle.std.proofs.Common.{arith, ◌+◌}
use Rattle.and_syntax.specs.Tables.{disjunction_name}
use Rattle.and_program.specs.Nodes.{names_of}
use Rattle.and_drafts.proofs.Noting.{Extends-again, Extends-self}
use Rattle.and_judging.proofs.LiftedNames.{none_numbered, next_numbered, place_few}
use Rattle.and_judging.proofs.numbering.note_disjunctions.Goals as goal

pub loop-place-init : goal.loop-place-init
loop-place-init c = record {
  numbered = none_numbered c.args.first (names_of c.args.names.now.keys) c.new-numbers.result.items c.new-numbers.ensures.items;
  kept = Extends-self (names_of c.args.names.now.keys);
}

pub loop-place-preserved : goal.loop-place-preserved
loop-place-preserved c = record {
  numbered = next_numbered c.args.first c.loop-place.place (names_of c.args.names.now.keys) (names_of c.loop-place.names.keys)
      (names_of c.note_disjunction.new.names.keys)
      c.loop-place.numbers.items c.push.new.self.items (record { 0 = c.in_ok-number.number }) c.loop-place.invariant.numbered c.in_ok-number.ensures.names
      c.in_ok-number.ensures.number
      c.in_ok-push.ensures.items;
  kept = Extends-again (names_of c.args.names.now.keys) (names_of c.loop-place.names.keys) (names_of c.note_disjunction.new.names.keys)
      c.loop-place.invariant.kept c.note_disjunction.ensures.kept;
}

pub overflow_cast-number : goal.overflow_cast-number
overflow_cast-number c =
    let few = place_few c.args.first c.loop-place.place c.args.count (names_of c.args.names.now.keys) (names_of c.loop-place.names.keys)
    (names_of c.note_disjunction.new.names.keys) c.loop-place.numbers.items (disjunction_name (c.args.first + c.loop-place.place))
    (disjunction_name (c.args.first + c.loop-place.place)) c.loop-place.invariant.numbered c.in_ok-number.ensures.names c.loop-place-test.true
    c.requires.few_names in
    omega (arith, c.in_ok-number.ensures.number, few)
