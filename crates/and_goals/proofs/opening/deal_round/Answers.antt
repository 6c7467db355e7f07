use Rattle.std.proofs.Common.{arith, ℕ, ◌≡◌, ◌+◌, ◌<◌, suc, [], length, ap, subst}
use Rattle.and_goals.specs.Hands.{IsDealt, IsFurther}
use Rattle.and_model.specs.declared.goal.Goal.{Goal}
use Rattle.and_shares.specs.declared.share.Share.{Share}
use Rattle.and_goals.proofs.Rounds.{round_goes_on, round_ends}
use Rattle.and_goals.proofs.Takings.{fresh_turn}
use Rattle.and_goals.proofs.Turns.{replaced, dealt_turn}
use Rattle.and_goals.proofs.opening.deal_round.Goals as goal

pub loop-place-preserved : goal.loop-place-preserved
loop-place-preserved c =
    let n = length c.args.hands.now in
    let further = c.args.further in
    let place = c.loop-place.place in
    let of = c.place_further-of.result in
    let hs = c.loop-place.hands in
    let x = c.index-hands-of.result in
    let y = c.index-hands-place.result in
    let g = c.guest.new.self in
    let m = c.meet.new.self in
    let o = c.in_ok-other.other in
    let b = c.loop-place.invariant.between in
    let few : suc further < n = omega arith in
    let to_of : IsFurther n place further of = subst (λ (l : ℕ). IsFurther l place further of) b.len c.place_further-of.ensures in
    let taken : o.known.taken ≡ [] = ap (λ (a : Share Goal). a.taken) c.in_ok-other.ensures.guest.1 in
    let turned = dealt_turn n further place of hs x y g m o c.loop-place-test.true few c.requires.few.1 to_of b c.in_ok-other.ensures.hand
    c.in_ok-other.ensures.guest.0 c.in_ok-meet.ensures in record {
      between = round_goes_on n further (suc further) further place of hs (replaced hs of g place m) c.loop-place-test.true few to_of b turned;
      fresh = fresh_turn hs of place x y g m o c.place_further-of.ensures.0 (omega arith) c.in_ok-other.ensures.hand taken c.in_ok-meet.ensures
          c.loop-place.invariant.fresh;
    }

pub returns-clause-dealt : goal.returns-clause-dealt
returns-clause-dealt c =
    let n = length c.args.hands.now in
    let next : suc c.args.further ≡ c.args.further + 1 = omega arith in
    subst (λ (k : ℕ). IsDealt k c.loop-place.hands) next
    (round_ends n c.args.further (suc c.args.further) c.args.further c.loop-place.place c.loop-place.hands (omega arith) c.loop-place-test.false
    c.loop-place.invariant.between)
