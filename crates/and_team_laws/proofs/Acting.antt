-- Each event of a history is of one of its teams.
use Rattle.std.proofs.Common.{ℕ, zero, suc, ◌*◌, ◌≡◌, ◌<◌, List, [], ◌∷◌, ◌++◌, length, get_or, set, replicate, refl, sym, ap, ◌∙◌, subst}
use Rattle.std.proofs.Common.{inl, inr, ◌⊎◌, arith, All}
use Rattle.std.proofs.lemmas.List.{length-set}
use Rattle.std.proofs.lemmas.List.Elements.{All-cons}
use Rattle.and_laws.proofs.Pairwise.{all_none}
use Rattle.and_histories.specs.PlainTree.{Key, Content, free, opened, taking, Cell, State, Event, Reply, Does, hand_of, cell_of}
use Rattle.and_histories.specs.PlainTree.{in_place_of, children, with_keys, joined, opening}
use Rattle.and_histories.specs.Histories.{HistoryEntry, Carries, team_of}
use Rattle.and_histories.proofs.KeptKeys.{team_in_range}

-- what stands in a list that was set at one place
set_or : {X : Type 0} (xs : List X) (i j : ℕ) (y d : X) → (get_or (set xs i y) j d ≡ y) ⊎ (get_or (set xs i y) j d ≡ get_or xs j d)
set_or [] i j y d = inr refl
set_or (x ∷ xs) zero zero y d = inl refl
set_or (x ∷ xs) zero (suc j) y d = inr refl
set_or (x ∷ xs) (suc i) zero y d = inr refl
set_or (x ∷ xs) (suc i) (suc j) y d = set_or xs i j y d

-- and in one that has the same everywhere
same_everywhere : {X : Type 0} (n j : ℕ) (y : X) → get_or (replicate n y) j y ≡ y
same_everywhere zero j y = refl
same_everywhere (suc n) zero y = refl
same_everywhere (suc n) (suc j) y = same_everywhere n j y

hands_are : {X : Type 0} (n : ℕ) (y : X) → length (replicate n y) ≡ n
hands_are zero y = refl
hands_are (suc n) y = ap suc (hands_are n y)

abbrev nothing_there : Cell
nothing_there = record { serial = 0; content = free }

-- The state has so many teams, and only these are taking.
record HasTeams (teams : ℕ) (s : State) : Type 0 where
  pub hands : length s.hands ≡ teams
  pub takers : (cell team : ℕ) → (cell_of s cell).content ≡ taking team → team < teams

free_not_taking : (team : ℕ) → free ≡ taking team → ⊥
free_not_taking team e = cc

opened_not_taking : (key : Key) (team : ℕ) → opened key ≡ taking team → ⊥
opened_not_taking key team e = cc

same_taker : (one other : ℕ) → taking one ≡ taking other → one ≡ other
same_taker one other e = cc

opening_teams : (teams : ℕ) → HasTeams teams (opening teams)
opening_teams teams = record {
  hands = hands_are teams [];
  takers = λ cell team is. elim (set_or (replicate (8 * teams) nothing_there) 0 cell (record { serial = 1; content = opened [] }) nothing_there) [
    | inl e ↦ absurd (opened_not_taking [] team (ap (λ (c : Cell). c.content) (sym e) ∙ is))
    | inr e ↦ absurd (free_not_taking team
        (ap (λ (c : Cell). c.content) (sym (same_everywhere (8 * teams) cell nothing_there)) ∙ ap (λ (c : Cell). c.content) (sym e) ∙ is))
  ];
}

-- A hand that is set leaves the teams as they are,
hand_set : (teams : ℕ) (s : State) (team : ℕ) (keys : List Key) → HasTeams teams s → HasTeams teams (record s { hands = set s.hands team keys })
hand_set teams s team keys h = record { hands = length-set s.hands team keys ∙ h.hands; takers = h.takers }

-- and so does a cell that no other team is taking.
cell_set : (teams : ℕ) (s : State) (cell serial : ℕ) (content : Content) → ((team : ℕ) → content ≡ taking team → team < teams)
    → HasTeams teams s → HasTeams teams (record s { cells = set s.cells cell (record { serial = serial; content = content }) })
cell_set teams s cell serial content fits h = record {
  hands = h.hands;
  takers = λ other team is. elim (set_or s.cells cell other (record { serial = serial; content = content }) nothing_there) [
    | inl e ↦ fits team (ap (λ (c : Cell). c.content) (sym e) ∙ is)
    | inr e ↦ h.takers other team (ap (λ (c : Cell). c.content) (sym e) ∙ is)
  ];
}

-- An event is of a team, and leaves them as they are.
acts : (teams : ℕ) (s next : State) (event : Event) (reply : Reply) → Does s event reply next → HasTeams teams s
    → (team_of event < teams) × HasTeams teams next
acts teams s next event reply (Does.forks team key longer clauses held is_prefix) h =
    let below = team_in_range s team key held in
    (omega (arith, h.hands), hand_set teams s team (in_place_of key (children longer clauses) (hand_of s team)) h)
acts teams s next event reply (Does.finds_spent team cell key is_cell owns held is) h =
    let below = team_in_range s team key held in (omega (arith, h.hands), h)
acts teams s next event reply (Does.finds_not_free team cell key is_cell owns held is other) h =
    let below = team_in_range s team key held in (omega (arith, h.hands), h)
acts teams s next event reply (Does.publishes team cell key is_cell owns held is is_free) h =
    let below = team_in_range s team key held in (
      omega (arith, h.hands),
      cell_set teams (with_keys s team key []) cell (suc (cell_of s cell).serial) (opened key) (λ other e. absurd (opened_not_taking key other e))
          (hand_set teams s team (in_place_of key [] (hand_of s team)) h),
    )
acts teams s next event reply (Does.takes team cell serial key is_team is_open) h =
    let below : team < teams = omega (arith, h.hands) in (
      below,
      cell_set teams (joined s team key) cell serial (taking team) (λ other e. subst (λ n. n < teams) (same_taker team other e) below)
          (hand_set teams s team (hand_of s team ++ key ∷ []) h),
    )
acts teams s next event reply (Does.misses team cell serial is_team is_cell other) h = (omega (arith, h.hands), h)
acts teams s next event reply (Does.clears team cell is_taking) h =
    (h.takers cell team is_taking, cell_set teams s cell (cell_of s cell).serial free (λ other e. absurd (free_not_taking other e)) h)
acts teams s next event reply (Does.ends team key how held) h =
    let below = team_in_range s team key held in
    (omega (arith, h.hands), hand_set teams s team (in_place_of key [] (hand_of s team)) h)
acts teams s next event reply (Does.looks team cell is_team is_cell) h = (omega (arith, h.hands), h)
acts teams s next event reply (Does.counts team is_team) h = (omega (arith, h.hands), h)

all_act : (teams : ℕ) (s after : State) (history : List HistoryEntry) → Carries s history after → HasTeams teams s
    → All (λ (e : HistoryEntry). team_of e.event < teams) history
all_act teams s after [] carried h = all_none (λ (e : HistoryEntry). team_of e.event < teams)
all_act teams s after (e ∷ history) (next, does, carried) h =
    let (below, now) = acts teams s next e.event e.reply does h in
    All-cons (λ (e : HistoryEntry). team_of e.event < teams) e history below (all_act teams next after history carried now)

pub history_teams : (teams : ℕ) (history : List HistoryEntry) (s : State) → Carries (opening teams) history s
    → All (λ (e : HistoryEntry). team_of e.event < teams) history
history_teams teams history s carried = all_act teams (opening teams) s history carried (opening_teams teams)
