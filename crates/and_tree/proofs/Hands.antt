-- Which keys a team has in hand after its calls.
use Rattle.std.proofs.Common.{ℕ, zero, suc, ◌≡◌, Bool, List, [], ◌∷◌, ◌++◌, refl, sym, ap, ◌∙◌, arith, All}
use Rattle.std.proofs.lemmas.List.{get_or-set_same}
use Rattle.std.proofs.lemmas.List.Elements.{All-cons}
use Rattle.and_histories.specs.PlainTree.{Key, State, fork, publish, claim, clear, end, forked, done, taken, cleared, last, Ending}
use Rattle.and_histories.specs.PlainTree.{Does, hand_of, in_place_of, children}
use Rattle.and_tree.specs.Passes.{TreeId, PassSeen, Makes, Takes, fresh, fresh_from}
use Rattle.and_tree.proofs.FewKept.{team_in_range}

after_taking : (s next : State) (team cell serial : ℕ) (key : Key) → Does s (claim team cell serial) (taken key) next
    → hand_of next team ≡ hand_of s team ++ key ∷ []
after_taking s next team cell serial key (Does.takes t c n k is open_so) = get_or-set_same s.hands team (hand_of s team ++ key ∷ []) [] is

after_clearing : (s next : State) (team cell other : ℕ) → Does s (clear team cell) cleared next → hand_of next other ≡ hand_of s other
after_clearing s next team cell other (Does.clears t c is) = refl

after_forking : (s next : State) (team : ℕ) (key longer : Key) (clauses : List ℕ) → Does s (fork team key longer clauses) forked next
    → hand_of next team ≡ in_place_of key (children longer clauses) (hand_of s team)
after_forking s next team key longer clauses (Does.forks t k l cs holds prefix) =
    get_or-set_same s.hands team (in_place_of key (children longer clauses) (hand_of s team)) [] (team_in_range s team key holds)

after_publishing : (s next : State) (team cell : ℕ) (key : Key) → Does s (publish team cell key) done next
    → hand_of next team ≡ in_place_of key [] (hand_of s team)
after_publishing s next team cell key (Does.publishes t c k is own holds serial content) =
    get_or-set_same s.hands team (in_place_of key [] (hand_of s team)) [] (team_in_range s team key holds)

after_ending : (s next : State) (team : ℕ) (key : Key) (how : Ending) (b : Bool) → Does s (end team key how) (last b) next
    → hand_of next team ≡ in_place_of key [] (hand_of s team)
after_ending s next team key how b (Does.ends t k h holds) =
    get_or-set_same s.hands team (in_place_of key [] (hand_of s team)) [] (team_in_range s team key holds)

pub taken_hand : (cell serial : ℕ) (key : Key) (p q : PassSeen) → Takes cell serial key p q
    → (q.hand ≡ p.hand ++ key ∷ []) × (q.tree ≡ p.tree) × (q.team ≡ p.team)
taken_hand cell serial key p q t =
    let m : PassSeen = t.between in (
      sym t.clears.hand_after ∙ after_clearing t.clears.before t.clears.after p.team cell m.team t.clears.does ∙ t.clears.hand_before
          ∙ sym t.claims.hand_after ∙ after_taking t.claims.before t.claims.after p.team cell serial key t.claims.does
          ∙ ap (λ l. l ++ key ∷ []) t.claims.hand_before,
      t.clears.tree ∙ t.claims.tree,
      t.clears.team ∙ t.claims.team,
    )

pub forked_hand : (key longer : Key) (clauses : List ℕ) (p q : PassSeen) → Makes (fork p.team key longer clauses) forked p q
    → q.hand ≡ in_place_of key (children longer clauses) p.hand
forked_hand key longer clauses p q m =
    sym m.hand_after ∙ after_forking m.before m.after p.team key longer clauses m.does ∙ ap (in_place_of key (children longer clauses)) m.hand_before

pub published_hand : (cell : ℕ) (key : Key) (p q : PassSeen) → Makes (publish p.team cell key) done p q → q.hand ≡ in_place_of key [] p.hand
published_hand cell key p q m = sym m.hand_after ∙ after_publishing m.before m.after p.team cell key m.does ∙ ap (in_place_of key []) m.hand_before

pub ended_hand : (key : Key) (how : Ending) (b : Bool) (p q : PassSeen) → Makes (end p.team key how) (last b) p q → q.hand ≡ in_place_of key [] p.hand
ended_hand key how b p q m = sym m.hand_after ∙ after_ending m.before m.after p.team key how b m.does ∙ ap (in_place_of key []) m.hand_before

pub fresh_of : (tree : TreeId) (team count : ℕ) → All (λ (p : PassSeen). p.tree ≡ tree) (fresh_from tree team count)
fresh_of tree team zero = λ i d within. absurd (omega (arith, within))
fresh_of tree team (suc count) =
    All-cons (λ (p : PassSeen). p.tree ≡ tree) (fresh tree team) (fresh_from tree (suc team) count) refl (fresh_of tree (suc team) count)
