use Rattle.std.proofs.Common.{rules, ◌≡◌, ◌∙◌, get_or, length, ◌<◌, length-set, subst}
use Rattle.and_goals.specs.Hands.{GivesOne, GivesNone}
use Rattle.and_goals.proofs.Behind.{same_here, same_next}
use Rattle.and_goals.proofs.Stealing.{steals_at, none_next}
use Rattle.and_goals.proofs.hand.take_of.Goals as goal

pub returns-in-Some-clause-some : goal.returns-in-Some-clause-some
returns-in-Some-clause-some c =
    let os = c.args.others.now in
    let ps = c.loop-place.others in
    let i = c.loop-place.place in
    let d = c.index-others-place.result in
    let v = c.loop-place.invariant in
    let below : i < length os = c.loop-place-test.true in
    let is : get_or ps i d ≡ get_or os i d = same_here os ps i d v.len v.same below in
    steals_at c.in-Some.goal os ps i d c.take.new.self v.len v.none v.same below
    (subst (λ o. GivesOne c.in-Some.goal o c.take.new.self) is c.in-Some.ensures.some)

pub loop-place-preserved : goal.loop-place-preserved
loop-place-preserved c =
    let os = c.args.others.now in
    let ps = c.loop-place.others in
    let i = c.loop-place.place in
    let d = c.index-others-place.result in
    let v = c.loop-place.invariant in
    let below : i < length os = c.loop-place-test.true in
    let is : get_or ps i d ≡ get_or os i d = same_here os ps i d v.len v.same below in
    let gives : GivesNone (get_or ps i d) c.take.new.self = search rules in record {
      len = length-set ps i c.take.new.self ∙ v.len;
      none = none_next os ps i d c.take.new.self v.len v.none below (subst (λ o. GivesNone o c.take.new.self) is gives);
      same = same_next os ps i c.take.new.self v.len v.same below;
    }
