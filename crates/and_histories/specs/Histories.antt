-- Histories of the choicepoint tree (this project's own).
use Rattle.std.specs.Prelude.{ℕ, ◌≡◌, List, [], ◌∷◌, filter, nat_eq}
use Rattle.and_histories.specs.PlainTree.{State, Event, fork, publish, claim, clear, end, look, left, Reply, opening}
use Rattle.and_histories.specs.PlainTree.{Does}

-- an event with its reply
pub record HistoryEntry : Type 0 where
  pub event : Event
  pub reply : Reply

abbrev pub team_of : Event → ℕ
team_of (fork team key longer clauses) = team
team_of (publish team cell key) = team
team_of (claim team cell serial) = team
team_of (clear team cell) = team
team_of (end team key how) = team
team_of (look team cell) = team
team_of (left team) = team

-- the calls of one team, in order
abbrev pub calls : List HistoryEntry → ℕ → List HistoryEntry
calls history team = filter (λ e. nat_eq (team_of e.event) team) history

-- The plain tree carries out the events, one after another, with these replies, and comes from the first state to the
-- second.
abbrev pub Carries : State → List HistoryEntry → State → Type 0
Carries s [] after = s ≡ after
Carries s (e ∷ history) after = (next : State) × Does s e.event e.reply next × Carries next history after

-- It carries them out from the opening.
abbrev pub Legal : (teams : ℕ) → List HistoryEntry → Type 0
Legal teams history = (s : State) × Carries (opening teams) history s
