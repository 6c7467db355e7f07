use Rattle.std.proofs.Common.{arith, ◌≡◌, ◌∙◌, ◌++◌, Some, List, refl, sym, ap, subst}
use Rattle.std.proofs.lemmas.List.{with_items_is}
use Rattle.std.specs.Prelude.{option_to_list}
use Rattle.std.specs.Vec.{with_items}
use Rattle.and_shares.specs.Bags.{SameBag}
use Rattle.and_goals.specs.Hands.{HandSeen, OtherSeen, seat_of, deques_of, taken_from, HasTaken}
use Rattle.and_goals.specs.contracts.hand.Hand.{the_view}
use Rattle.and_goals.proofs.Moves.{takes}
use Rattle.and_goals.proofs.Seats.{same_seat, has_taken_own, has_taken_besides}
use Rattle.and_goals.proofs.Stealing.{tried_deques, tried_taken}
use Rattle.and_goals.proofs.hand.Hand.take.Goals as goal

pub pop_as-requires-clause-fifo : goal.pop_as-requires-clause-fifo
pop_as-requires-clause-fifo c = λ fifo. takes _ 1 _ c.self.invariant.1

pub returns-in-Some-clause-taken : goal.returns-in-Some-clause-taken
returns-in-Some-clause-taken c =
    let old = the_view c.self.inside in
    let new = the_view (record { own = c.pop_as.new.self; others = c.self.inside.others; puts = c.self.inside.puts }) in
    subst (λ (h : HandSeen). HasTaken (Some c.in-Some.goal) h new) c.self.view_is (has_taken_own c.in-Some.goal old new c.in-Some.ensures.rule refl)

pub returns-clause-seat : goal.returns-clause-seat
returns-clause-seat c =
    let ps = c.take_of.new.others in
    let old = the_view c.self.inside in
    let new = the_view (record { own = c.pop_as.new.self; others = with_items c.self.inside.others ps; puts = c.self.inside.puts }) in
    let items : new.others ≡ ps = with_items_is c.self.inside.others ps (omega arith) in
    let tried = tried_deques c.take_of.result c.as_mut_slice.result.now ps c.take_of.ensures.some c.take_of.ensures.none in
    same_seat old new c.in_default.ensures.same.0.0 (ap (λ v. v.parts) c.in_default.ensures.rule.0) (ap deques_of items ∙ tried
    ∙ ap deques_of c.as_mut_slice.ensures.value)
    ∙ ap seat_of c.self.view_is

pub returns-clause-taken : goal.returns-clause-taken
returns-clause-taken c =
    let ps = c.take_of.new.others in
    let old = the_view c.self.inside in
    let new = the_view (record { own = c.pop_as.new.self; others = with_items c.self.inside.others ps; puts = c.self.inside.puts }) in
    let items : new.others ≡ ps = with_items_is c.self.inside.others ps (omega arith) in
    let found = c.take_of.result in
    let taken : SameBag (taken_from c.take_of.new.others) (taken_from c.self.inside.others.items ++ option_to_list found) =
    subst (λ (os : List OtherSeen). SameBag (taken_from ps) (taken_from os ++ option_to_list found)) c.as_mut_slice.ensures.value
    (tried_taken found c.as_mut_slice.result.now ps c.take_of.ensures.some c.take_of.ensures.none) in
    let all : SameBag (taken_from new.others) (taken_from old.others ++ option_to_list found) =
    subst (λ (os : List OtherSeen). SameBag (taken_from os) (taken_from old.others ++ option_to_list found)) (sym items) taken in
    subst (λ (h : HandSeen). HasTaken found h new) c.self.view_is (has_taken_besides found old new c.in_default.ensures.rule.0 all)
