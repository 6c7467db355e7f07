use Rattle.std.proofs.Common.{◌∙◌, ◌++◌, ◌∷◌, [], List, refl, sym, ap, subst}
use Rattle.and_goals.specs.Hands.{HandSeen, AreAllHands}
use Rattle.and_goals.proofs.Seats.{still_all_hands, one_seat_more}
use Rattle.and_team_rows.proofs.hands.tell.Goals as goal

pub rest-requires : goal.rest-requires
rest-requires c =
    let hands : List HandSeen = c.in_ok-others.field-0.others in
    let first : HandSeen = c.in_ok-others.field-0.first in
    let second : HandSeen = c.in_ok-others.field-0.second in
    let all : List HandSeen → HandSeen → List HandSeen = λ those hand. those ++ hand ∷ [] in
    let was : List HandSeen = (hands ++ first ∷ []) ++ second ∷ [] in
    let is : List HandSeen = (hands ++ c.calls.new.first ∷ []) ++ c.calls.new.second ∷ [] in
    let still : AreAllHands is = still_all_hands was is (one_seat_more (hands ++ first ∷ []) (hands ++ c.calls.new.first ∷ []) second c.calls.new.second
    (one_seat_more hands hands first c.calls.new.first refl c.calls.ensures.first) c.calls.ensures.second) c.in_ok-others.ensures in
    subst AreAllHands (sym (c.in_ok-all.ensures ∙ ap (λ (those : List HandSeen). all those c.calls.new.second) c.in_ok-most.ensures)) still
