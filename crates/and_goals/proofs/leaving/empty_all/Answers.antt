use Rattle.std.proofs.Common.{rules, arith, refl, ◌≡◌, ◌∙◌, get_or, length, length-set, ap, subst, vec_capacity}
use Rattle.and_goals.specs.Balance.{MovesRest}
use Rattle.and_goals.specs.Hands.{HandSeen}
use Rattle.and_goals.proofs.Behind.{same_here, same_next}
use Rattle.and_goals.proofs.Sums.{emptied_none, emptied_more, emptied_room, emptied_all}
use Rattle.and_goals.proofs.leaving.empty_all.Goals as goal

pub loop-place-init : goal.loop-place-init
loop-place-init c = record { len = refl; same = refl; capacity = refl; emptied = emptied_none c.args.hands.now c.args.goals.now.items }

pub empty_into-requires-clause-parts : goal.empty_into-requires-clause-parts
empty_into-requires-clause-parts c =
    let hs = c.args.hands.now in
    let ks = c.loop-place.hands in
    let i = c.loop-place.place in
    let d = c.index-hands-place.result in
    let v = c.loop-place.invariant in
    let is : get_or ks i d ≡ get_or hs i d = same_here hs ks i d v.len v.same c.loop-place-test.true in
    let parts = c.requires.gathered.parts i d c.loop-place-test.true in
    let same = ap (λ (h : HandSeen). h.own.parts) is in
    omega arith

pub empty_into-requires-clause-room : goal.empty_into-requires-clause-room
empty_into-requires-clause-room c =
    let hs = c.args.hands.now in
    let ks = c.loop-place.hands in
    let i = c.loop-place.place in
    let d = c.index-hands-place.result in
    let v = c.loop-place.invariant in
    let is : get_or ks i d ≡ get_or hs i d = same_here hs ks i d v.len v.same c.loop-place-test.true in
    let same = ap (λ (h : HandSeen). length h.own.put) is in
    let most = c.requires.room in
    let room = emptied_room hs i d c.args.goals.now.items c.loop-place.goals.items (vec_capacity c.args.goals.now) c.loop-place-test.true v.emptied
    most in
    let cap = v.capacity in
    omega arith

pub loop-place-preserved : goal.loop-place-preserved
loop-place-preserved c =
    let hs = c.args.hands.now in
    let ks = c.loop-place.hands in
    let i = c.loop-place.place in
    let d = c.index-hands-place.result in
    let v = c.loop-place.invariant in
    let is : get_or ks i d ≡ get_or hs i d = same_here hs ks i d v.len v.same c.loop-place-test.true in
    let moved = subst (λ (h : HandSeen). MovesRest h.own c.loop-place.goals.items c.empty_into.new.goals.items) is
    c.empty_into.ensures.moved in record {
      len = length-set ks i c.empty_into.new.self ∙ v.len;
      same = same_next hs ks i c.empty_into.new.self v.len v.same c.loop-place-test.true;
      capacity = c.empty_into.ensures.capacity ∙ v.capacity;
      emptied = emptied_more hs i d c.args.goals.now.items c.loop-place.goals.items c.empty_into.new.goals.items c.loop-place-test.true v.emptied
          (c.requires.gathered.count i d c.loop-place-test.true) moved;
    }

pub returns : goal.returns
returns c = emptied_all c.args.hands.now c.loop-place.place c.args.goals.now.items c.loop-place.goals.items (search rules)
    c.loop-place.invariant.emptied
