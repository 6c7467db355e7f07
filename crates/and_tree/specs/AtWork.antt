-- What holds of a shared tree at every moment (this project's own).
use Rattle.std.specs.Prelude.{ℕ, ◌≡◌, ◌<◌, ◌≤◌, ◌+◌, List, [], ◌∷◌, ◌++◌, map, flat_map, length, All, Contains}
use Rattle.and_model.specs.Prefixes.{IsPrefix}
use Rattle.and_model.specs.Store.{AreDistinct}
use Rattle.and_histories.specs.PlainTree.{State, free, taking, Owns, opening, cell_of, hand_of, IsCell, Event, fork}
use Rattle.and_histories.specs.PlainTree.{publish, claim, clear, end, look, left, Does}
use Rattle.and_histories.specs.Histories.{HistoryEntry, Carries, calls, team_of}
use Rattle.and_tree.specs.Few.{IsFew, most_in_hand}
use Rattle.and_tree.specs.Sight.{About, Work, at_rest, opening_cell, clearing_cell, Member, Sight}

-- the plain tree that the words stand for, and how it came about
pub record Held : Type 0 where
  pub now : State
  pub history : List HistoryEntry

abbrev pub team_at : Member → ℕ
team_at m = m.team

abbrev pub all_members : List Sight → List Member
all_members views = flat_map (λ (v : Sight). v.members) views

-- The cell is as the team's work says.
abbrev pub IsAtCell : State → (team : ℕ) → Work → Type 0
IsAtCell s team at_rest = Unit {0}
IsAtCell s team (opening_cell cell serial) =
    IsCell s cell × Owns team cell × (cell_of s cell ≡ record { serial = serial; content = free })
IsAtCell s team (clearing_cell cell serial) =
    IsCell s cell × (cell_of s cell ≡ record { serial = serial; content = taking team })

-- What holds of one pass. All calls of its team are in what it has seen, so its hand is the team's.
pub record Works (a : About) (h : Held) (m : Member) : Type 0 where
  pub team : m.team < a.teams
  pub seen : IsPrefix m.seen h.history
  pub own : calls m.seen m.team ≡ calls h.history m.team
  pub hand : m.hand ≡ hand_of h.now m.team
  pub at_cell : IsAtCell h.now m.team m.work

pub record AtWork (a : About) (members : List Member) (h : Held) : Type 0 where
  pub carried : Carries (opening a.teams) h.history h.now
  pub few : IsFew a.teams h.now
  pub by_teams : All (λ (e : HistoryEntry). team_of e.event < a.teams) h.history
  pub each : All (Works a h) members
  pub distinct : AreDistinct (map team_at members)
  pub all_teams : length members ≡ a.teams
  -- This pins the history down: some pass has seen all of it.
  pub seen : (m : Member) × Contains members m × (m.seen ≡ h.history)

-- ---- steps

-- one more event
abbrev pub then_entry : HistoryEntry → Held → State → Held
then_entry e h next = record { now = next; history = h.history ++ e ∷ [] }

-- A fork leaves no more keys in hand than the most; nothing is asked of other events.
abbrev pub IsModestEvent : State → Event → Type 0
IsModestEvent s (fork team key longer clauses) = length (hand_of s team) + length clauses ≤ most_in_hand
IsModestEvent s (publish team cell key) = Unit {0}
IsModestEvent s (claim team cell serial) = Unit {0}
IsModestEvent s (clear team cell) = Unit {0}
IsModestEvent s (end team key how) = Unit {0}
IsModestEvent s (look team cell) = Unit {0}
IsModestEvent s (left team) = Unit {0}

-- The pass m became n by an event of its own, as the last of the history, all of which it has seen now.
pub record Acts (h k : Held) (m n : Member) (e : HistoryEntry) : Type 0 where
  pub of_team : team_of e.event ≡ m.team
  pub does : Does h.now e.event e.reply k.now
  pub modest : IsModestEvent h.now e.event
  pub history : k.history ≡ h.history ++ e ∷ []
  pub becomes : n ≡ record { team = m.team; seen = k.history; hand = hand_of k.now m.team; work = n.work }
  pub at_cell : IsAtCell k.now m.team n.work

-- Or it took a slot, or put one back, and nothing else.
pub record Rests (h k : Held) (m n : Member) : Type 0 where
  pub same : k ≡ h
  pub becomes : n ≡ record m { work = n.work }
  pub at_cell : IsAtCell h.now m.team n.work
