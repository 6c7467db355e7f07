use Rattle.std.proofs.Common.{arith, ℕ, ◌≡◌, ◌+◌, ◌<◌, ◌∙◌, refl, suc, length, ap, List, subst}
use Rattle.and_goals.specs.Hands.{IsDealt, IsFurther, OtherSeen}
use Rattle.and_goals.proofs.Rounds.{round_begins, round_goes_on, round_ends}
use Rattle.and_goals.proofs.Takings.{gathered_put, gathered_taken}
use Rattle.and_goals.proofs.Turns.{replaced, given_up, gathered_turn}
use Rattle.and_goals.proofs.leaving.gather_round.Goals as goal

pub loop-place-init : goal.loop-place-init
loop-place-init c =
    let hs = c.args.hands.now in
    let next : c.args.further + 1 ≡ suc c.args.further = omega arith in record {
      between = round_begins (length hs) c.args.further c.args.further (suc c.args.further) hs refl
          (subst (λ (k : ℕ). IsDealt k hs) next c.requires.dealt);
      put = refl;
      taken = λ weight. refl;
    }

pub part-other-requires : goal.part-other-requires
part-other-requires c = λ none.
    let due = c.loop-place.invariant.between.due c.loop-place.place c.index-hands-place.result (omega arith) c.loop-place-test.true in
    let no = ap (λ (os : List OtherSeen). length os) none in
    omega arith

pub take_in-requires : goal.take_in-requires
take_in-requires c =
    let n = length c.args.hands.now in
    let b = c.loop-place.invariant.between in
    let further = c.args.further in
    let place = c.loop-place.place in
    let of = c.place_further-of.result in
    let few : suc further < n = omega arith in
    let to_of : IsFurther n place further of = subst (λ (l : ℕ). IsFurther l place further of) b.len c.place_further-of.ensures in
    given_up n further place of c.loop-place.hands c.index-hands-place.result c.index-hands-of.result c.part-other.new.self c.part-other.result
    c.loop-place-test.true few to_of b c.part-other.ensures

pub loop-place-preserved : goal.loop-place-preserved
loop-place-preserved c =
    let n = length c.args.hands.now in
    let further = c.args.further in
    let place = c.loop-place.place in
    let of = c.place_further-of.result in
    let hs = c.loop-place.hands in
    let x = c.index-hands-place.result in
    let y = c.index-hands-of.result in
    let u = c.part-other.new.self in
    let v = c.take_in.new.self in
    let o = c.part-other.result in
    let i = c.loop-place.invariant in
    let few : suc further < n = omega arith in
    let to_of : IsFurther n place further of = subst (λ (l : ℕ). IsFurther l place further of) i.between.len c.place_further-of.ensures in
    let place_in : place < length hs = omega arith in
    let of_in = c.place_further-of.ensures.0 in
    let turned = gathered_turn n further place of hs x y u o c.loop-place-test.true few to_of i.between c.part-other.ensures v
    c.take_in.ensures in record {
      between = round_goes_on n further further (suc further) place of hs (replaced hs place u of v) c.loop-place-test.true few to_of i.between
          turned;
      put = gathered_put hs place of x y u v o place_in of_in c.part-other.ensures c.take_in.ensures ∙ i.put;
      taken = λ weight. gathered_taken hs place of x y u v o place_in of_in c.part-other.ensures c.take_in.ensures weight ∙ i.taken weight;
    }

pub returns-clause-dealt : goal.returns-clause-dealt
returns-clause-dealt c =
    let few : suc c.args.further < length c.args.hands.now = omega arith in
    round_ends (length c.args.hands.now) c.args.further c.args.further (suc c.args.further) c.loop-place.place c.loop-place.hands few
    c.loop-place-test.false c.loop-place.invariant.between
