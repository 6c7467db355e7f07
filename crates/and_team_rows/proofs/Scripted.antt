-- What is in the hands of a tree's teams after calls that are written out.
use Rattle.std.proofs.Common.{ℕ, ◌+◌, ◌≡◌, ◌<◌, ◌≤◌, ◌*◌, zero, suc, List, [], ◌∷◌, ◌++◌, length, get_or, set, refl, sym, subst, ap, ◌∙◌, length-set}
use Rattle.std.proofs.Common.{replicate, arith}
use Rattle.std.specs.Prelude.{Contains}
use Rattle.std.proofs.lemmas.List.{length-replicate}
use Rattle.and_histories.specs.PlainTree.{Key, State, Cell, Ending, Event, Reply, fork, publish, claim, clear, end, look, done, taken, cleared, Does}
use Rattle.and_histories.specs.PlainTree.{IsTeam, IsCell, Holds, hand_of, in_place_of, children, opened, opening, joined, free, cell_of}
use Rattle.and_tree.specs.Plain.{Plain, Turns, Takes}

abbrev pub hands_after : Event → Reply → List (List Key) → List (List Key)
hands_after (fork team key longer clauses) reply hands = set hands team (in_place_of key (children longer clauses) (get_or hands team []))
hands_after (publish team cell key) done hands = set hands team (in_place_of key [] (get_or hands team []))
hands_after (claim team cell serial) (taken key) hands = set hands team (get_or hands team [] ++ key ∷ [])
hands_after (end team key how) reply hands = set hands team (in_place_of key [] (get_or hands team []))
hands_after event reply hands = hands

does_hands : (s next : State) (event : Event) (reply : Reply) → Does s event reply next → next.hands ≡ hands_after event reply s.hands
does_hands s next event reply (Does.forks _ _ _ _ _ _) = refl
does_hands s next event reply (Does.finds_spent _ _ _ _ _ _ _) = refl
does_hands s next event reply (Does.finds_not_free _ _ _ _ _ _ _ _) = refl
does_hands s next event reply (Does.publishes _ _ _ _ _ _ _ _) = refl
does_hands s next event reply (Does.takes _ _ _ _ _ _) = refl
does_hands s next event reply (Does.misses _ _ _ _ _ _) = refl
does_hands s next event reply (Does.clears _ _ _) = refl
does_hands s next event reply (Does.ends _ _ _ _) = refl
does_hands s next event reply (Does.looks _ _ _ _) = refl
does_hands s next event reply (Does.counts _ _) = refl

does_cells : (s next : State) (event : Event) (reply : Reply) → Does s event reply next → length next.cells ≡ length s.cells
does_cells s next event reply (Does.forks _ _ _ _ _ _) = refl
does_cells s next event reply (Does.finds_spent _ _ _ _ _ _ _) = refl
does_cells s next event reply (Does.finds_not_free _ _ _ _ _ _ _ _) = refl
does_cells s next event reply (Does.publishes team cell key _ _ _ _ _) = length-set s.cells cell _
does_cells s next event reply (Does.takes team cell _ _ _ _) = length-set s.cells cell _
does_cells s next event reply (Does.misses _ _ _ _ _ _) = refl
does_cells s next event reply (Does.clears team cell _) = length-set s.cells cell _
does_cells s next event reply (Does.ends _ _ _ _) = refl
does_cells s next event reply (Does.looks _ _ _ _) = refl
does_cells s next event reply (Does.counts _ _) = refl

left_leaves : (s next : State) (reply : Reply) (team : ℕ) → Does s (Event.left team) reply next → next ≡ s
left_leaves s next reply team (Does.counts _ _) = refl

look_leaves : (s next : State) (reply : Reply) (team cell : ℕ) → Does s (look team cell) reply next → next ≡ s
look_leaves s next reply team cell (Does.looks _ _ _ _) = refl

pub left_and_looked : (p q r : Plain) (one two : Reply) (team other cell : ℕ) → Turns (Event.left team) one p q → Turns (look other cell) two q r
    → r.state ≡ p.state
left_and_looked p q r one two team other cell left looked =
    look_leaves q.state r.state two other cell looked.does
    ∙ left_leaves p.state q.state one team left.does

-- The teams have this in hand, and there are so many cells.
pub record Stage (s : State) (hands : List (List Key)) (cells : ℕ) : Type 0 where
  pub hands_are : s.hands ≡ hands
  pub cells_are : length s.cells ≡ cells

pub turned : {event : Event} {reply : Reply} {p q : Plain} {hands : List (List Key)} {cells : ℕ} → Stage p.state hands cells → Turns event reply p q
    → Stage q.state (hands_after event reply hands) cells
turned {event} {reply} {p} {q} {hands} {cells} stage turns = record {
  hands_are = does_hands p.state q.state event reply turns.does ∙ ap (hands_after event reply) stage.hands_are;
  cells_are = does_cells p.state q.state event reply turns.does ∙ stage.cells_are;
}

pub taken_over : {team cell serial cells : ℕ} {key : Key} {p q : Plain} {hands : List (List Key)} → Stage p.state hands cells
    → Takes team cell serial key p q → Stage q.state (hands_after (claim team cell serial) (taken key) hands) cells
taken_over {team} {cell} {serial} {cells} {key} {p} {q} stage takes =
    turned {event = clear team cell} {reply = cleared} {p = takes.between} {q = q}
    (turned {event = claim team cell serial} {reply = taken key} {p = p} {q = takes.between} stage takes.claims) takes.clears

pub team_on : {s : State} {hands : List (List Key)} {cells : ℕ} (team : ℕ) → Stage s hands cells → team < length hands → IsTeam s team
team_on team stage is = subst (λ (l : List (List Key)). team < length l) (sym stage.hands_are) is

pub cell_on : {s : State} {hands : List (List Key)} {cells : ℕ} (cell : ℕ) → Stage s hands cells → cell < cells → IsCell s cell
cell_on cell stage is = subst (λ n. cell < n) (sym stage.cells_are) is

pub held_on : {s : State} {hands : List (List Key)} {cells : ℕ} (team : ℕ) (key : Key) → Stage s hands cells → Contains (get_or hands team []) key
    → Holds s team key
held_on team key stage is = subst (λ (l : List (List Key)). Contains (get_or l team []) key) (sym stage.hands_are) is

pub few_on : {s : State} {hands : List (List Key)} {cells : ℕ} (team more most : ℕ) → Stage s hands cells
    → length (get_or hands team []) + more ≤ most → length (hand_of s team) + more ≤ most
few_on team more most stage is = subst (λ (l : List (List Key)). length (get_or l team []) + more ≤ most) (sym stage.hands_are) is

pub at_first : (key k : Key) (keys : List Key) → key ≡ k → Contains (k ∷ keys) key
at_first key k keys is = (0, omega arith, sym is)

-- A fork of the root, and the end of a key, where the keys are known.
pub forked_root : {key longer : Key} {clauses : List ℕ} {p q : Plain} {hands : List (List Key)} {cells : ℕ} (known : List ℕ) → key ≡ [] → longer ≡ []
    → clauses ≡ known → Stage p.state (([] ∷ []) ∷ hands) cells → Turns (fork 0 key longer clauses) Reply.forked p q
    → Stage q.state ((children [] known ++ []) ∷ hands) cells
forked_root {key} {longer} {clauses} {p} {q} {hands} {cells} known key_is longer_is clauses_is stage turns =
    subst (λ (keys : List Key). Stage q.state (keys ∷ hands) cells)
    (ap (λ k. in_place_of k (children longer clauses) ([] ∷ [])) key_is ∙ ap (λ l. children l clauses ++ []) longer_is
    ∙ ap (λ c. children [] c ++ []) clauses_is)
    (turned {p = p} {q = q} stage turns)

pub ended_known : {team cells : ℕ} {key : Key} {how : Ending} {reply : Reply} {p q : Plain} {hands : List (List Key)} (known : Key) → key ≡ known
    → Stage p.state hands cells → Turns (end team key how) reply p q
    → Stage q.state (set hands team (in_place_of known [] (get_or hands team []))) cells
ended_known {team} {cells} {key} {how} {reply} {p} {q} {hands} known is stage turns =
    subst (λ k. Stage q.state (set hands team (in_place_of k [] (get_or hands team []))) cells) is (turned {p = p} {q = q} stage turns)

abbrev free_cell : Cell
free_cell = record { serial = 0; content = free }

abbrev root_cell : Cell
root_cell = record { serial = 1; content = opened [] }

-- The key that is claimed first is the root's.
does_take_root : (s next : State) (key : Key) (teams : ℕ) → s ≡ opening teams → 0 < teams → Does s (claim 0 0 1) (taken key) next → key ≡ []
does_take_root s next key teams is some (Does.takes _ _ _ _ _ is_open) =
    let root = first_cell (8 * teams) (omega (arith, some)) in
    same_key (ap (λ (c : Cell). c.content) (sym is_open ∙ ap (λ s. cell_of s 0) is ∙ root))
  where
    first_cell : (n : ℕ) → 0 < n → get_or (set (replicate n free_cell) 0 root_cell) 0 free_cell ≡ root_cell
    first_cell zero some = absurd (omega (arith, some))
    first_cell (suc n) some = refl

    same_key : {k l : Key} → opened k ≡ opened l → k ≡ l
    same_key e = cc

pub opened_stage : (s : State) (teams : ℕ) → s ≡ opening teams → Stage s (replicate teams []) (8 * teams)
opened_stage s teams is = record {
  hands_are = ap (λ (x : State). x.hands) is;
  cells_are = ap (λ (x : State). length x.cells) is ∙ length-set (replicate (8 * teams) free_cell) 0 _
      ∙ length-replicate (8 * teams) _;
}

pub root_taken : {key : Key} {p q : Plain} (teams : ℕ) → p.state ≡ opening teams → 0 < teams → Takes 0 0 1 key p q → key ≡ []
root_taken {key} {p} {q} teams is some takes = does_take_root p.state takes.between.state key teams is some takes.claims.does

pub root_claimed : {key : Key} {p q : Plain} (teams : ℕ) → p.state ≡ opening teams → 0 < teams → Takes 0 0 1 key p q
    → Stage q.state (joined (opening teams) 0 []).hands (8 * teams)
root_claimed {key} {p} {q} teams is some takes =
    subst (λ k. Stage q.state (joined (opening teams) 0 k).hands (8 * teams)) (root_taken {p = p} {q = q} teams is some takes)
    (taken_over {p = p} {q = q} (opened_stage p.state teams is) takes)
