-- An event has one reply and one next state.
use Rattle.std.proofs.Common.{ℕ, ◌≡◌, refl, sym, ap, ◌∙◌}
use Rattle.and_histories.specs.PlainTree.{Key, Cell, opened, taking, State, Event, Reply, taken, Does, IsOpen, joined, with_cell}

one_open : (s : State) (cell serial : ℕ) (key other : Key) → IsOpen s cell serial key → IsOpen s cell serial other → key ≡ other
one_open s cell serial key other one two = let same : opened key ≡ opened other = ap (λ (c : Cell). c.content) (sym one ∙ two) in cc

pub one_answer : (s next after : State) (event : Event) (reply answer : Reply) → Does s event reply next → Does s event answer after
    → (reply ≡ answer) × (next ≡ after)
one_answer s next after event reply answer (Does.forks team key longer clauses held is_prefix) (Does.forks _ _ _ _ _ _) = (refl, refl)
one_answer s next after event reply answer (Does.finds_spent team cell key is_cell owns held is) (Does.finds_spent _ _ _ _ _ _ _) = (refl, refl)
one_answer s next after event reply answer (Does.finds_spent team cell key is_cell owns held is) (Does.finds_not_free _ _ _ _ _ _ less other) = absurd (less is)
one_answer s next after event reply answer (Does.finds_spent team cell key is_cell owns held is) (Does.publishes _ _ _ _ _ _ less is_free) = absurd (less is)
one_answer s next after event reply answer (Does.finds_not_free team cell key is_cell owns held less other) (Does.finds_spent _ _ _ _ _ _ is) = absurd (less is)
one_answer s next after event reply answer (Does.finds_not_free team cell key is_cell owns held less other) (Does.finds_not_free _ _ _ _ _ _ _ _) = (refl, refl)
one_answer s next after event reply answer (Does.finds_not_free team cell key is_cell owns held less other) (Does.publishes _ _ _ _ _ _ _ is_free) =
    absurd (other is_free)
one_answer s next after event reply answer (Does.publishes team cell key is_cell owns held less is_free) (Does.finds_spent _ _ _ _ _ _ is) = absurd (less is)
one_answer s next after event reply answer (Does.publishes team cell key is_cell owns held less is_free) (Does.finds_not_free _ _ _ _ _ _ _ other) =
    absurd (other is_free)
one_answer s next after event reply answer (Does.publishes team cell key is_cell owns held less is_free) (Does.publishes _ _ _ _ _ _ _ _) = (refl, refl)
one_answer s next after event reply answer (Does.takes team cell serial key is_team is_open) (Does.takes _ _ _ other _ also_open) =
    let same = one_open s cell serial key other is_open also_open in
    (ap taken same, ap (λ k. with_cell (joined s team k) cell serial (taking team)) same)
one_answer s next after event reply answer (Does.takes team cell serial key is_team is_open) (Does.misses _ _ _ _ _ none) = absurd (none key is_open)
one_answer s next after event reply answer (Does.misses team cell serial is_team is_cell none) (Does.takes _ _ _ key _ is_open) = absurd (none key is_open)
one_answer s next after event reply answer (Does.misses team cell serial is_team is_cell none) (Does.misses _ _ _ _ _ _) = (refl, refl)
one_answer s next after event reply answer (Does.clears team cell is_taking) (Does.clears _ _ _) = (refl, refl)
one_answer s next after event reply answer (Does.ends team key how held) (Does.ends _ _ _ _) = (refl, refl)
one_answer s next after event reply answer (Does.looks team cell is_team is_cell) (Does.looks _ _ _ _) = (refl, refl)
one_answer s next after event reply answer (Does.counts team is_team) (Does.counts _ _) = (refl, refl)
