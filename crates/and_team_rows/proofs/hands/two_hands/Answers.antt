use Rattle.std.proofs.Common.{◌∙◌, ◌++◌, ◌∷◌, [], List, ap, subst}
use Rattle.and_goals.specs.Hands.{HandSeen, AreAllHands}
use Rattle.and_team_rows.proofs.hands.two_hands.Goals as goal

pub returns : goal.returns
returns c =
    let all : List HandSeen → HandSeen → List HandSeen = λ hands hand. hands ++ hand ∷ [] in
    subst AreAllHands (c.in_ok-second.ensures ∙ ap (λ (hands : List HandSeen). all hands c.in_ok-second.second) c.in_ok-first.ensures)
    c.in_ok-others.ensures.whole
