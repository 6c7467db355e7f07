-- What contracts see of a shared tree and of its passes, and what calls make of a pass (this project's own).
use Rattle.std.specs.Prelude.{ℕ, zero, suc, ◌+◌, ◌*◌, ◌≡◌, ◌<◌, ◌≤◌, List, [], ◌∷◌, ◌++◌}
use Rattle.atomic_table.specs.Seated.{TableId}
use Rattle.and_model.specs.Prefixes.{IsPrefix}
use Rattle.and_histories.specs.PlainTree.{Key, State, Event, claim, clear, Reply, taken, cleared, opening, hand_of}
use Rattle.and_histories.specs.PlainTree.{Does}
use Rattle.and_histories.specs.Histories.{HistoryEntry, Carries, Legal, calls}
use Rattle.and_tree.specs.Plain.{Tally, none_yet, tallied}
use Rattle.and_tree.specs.Sight.{About, Sight, at_rest, mine_of, IsAlone}

-- which tree it is, and what it was opened with
pub record TreeId : Type 0 where
  pub table : TableId
  pub about : About

-- A pass: the tree and the team that it is of, the calls that it has seen, and the keys that its team has in hand.
pub record PassSeen : Type 0 where
  pub tree : TreeId
  pub team : ℕ
  pub seen : List HistoryEntry
  pub hand : List Key

-- The call of the pass's team was answered so, and the pass p became q: it has seen all calls that others made up to
-- then, and its own call as the last one.
pub record Makes (event : Event) (reply : Reply) (p q : PassSeen) : Type 0 where
  pub others : List HistoryEntry
  pub of_others : calls others p.team ≡ []
  pub seen : q.seen ≡ (p.seen ++ others) ++ record { event = event; reply = reply } ∷ []
  -- The calls that it had seen and those of the others lead to a state, in which this call is answered so.
  pub before : State
  pub after : State
  pub carried : Carries (opening p.tree.about.teams) (p.seen ++ others) before
  pub does : Does before event reply after
  -- The hand changes by this call alone.
  pub hand_before : hand_of before p.team ≡ p.hand
  pub hand_after : hand_of after p.team ≡ q.hand
  pub tree : q.tree ≡ p.tree
  pub team : q.team ≡ p.team

-- A claim that takes makes two calls: it clears the cell, too.
pub record Takes (cell serial : ℕ) (key : Key) (p q : PassSeen) : Type 0 where
  pub between : PassSeen
  pub claims : Makes (claim p.team cell serial) (taken key) p between
  pub clears : Makes (clear p.team cell) cleared between q

-- The pass p became q, and has seen some more calls of others.
pub record Hears (p q : PassSeen) : Type 0 where
  pub others : List HistoryEntry
  pub of_others : calls others p.team ≡ []
  pub seen : q.seen ≡ p.seen ++ others
  pub legal : Legal p.tree.about.teams q.seen
  pub becomes : q ≡ record p { seen = q.seen }

-- Two passes met: each has seen now what either had seen.
pub record Meets (p other q after : PassSeen) : Type 0 where
  pub one : Hears p q
  pub second : Hears other after
  pub seen_by_other : IsPrefix p.seen after.seen
  pub seen_by_one : IsPrefix other.seen q.seen

-- ---- passes at the opening

abbrev pub fresh : TreeId → (team : ℕ) → PassSeen
fresh tree team = record { tree = tree; team = team; seen = []; hand = [] }

-- the passes of so many teams that have done nothing, from this team on
abbrev pub fresh_from : TreeId → (team count : ℕ) → List PassSeen
fresh_from tree team zero = []
fresh_from tree team (suc count) = fresh tree team ∷ fresh_from tree (suc team) count

-- ---- what is kept

-- what the events of a history count, added to a tally
abbrev pub tally_on : Tally → List HistoryEntry → Tally
tally_on t [] = t
tally_on t (e ∷ history) = tally_on (tallied e.event t) history

abbrev pub tally_of : List HistoryEntry → Tally
tally_of history = tally_on none_yet history

-- What a pass keeps beside its seat: the team's number, and what its calls count.
pub record IsPass (v : Sight) (team : ℕ) (tally : Tally) : Type 0 where
  pub alone : IsAlone v
  pub at_rest_now : (mine_of v).work ≡ at_rest
  pub team_is : (mine_of v).team ≡ team
  pub team_below : team < v.about.teams
  pub few_teams : v.about.teams ≤ 16
  pub tally_is : tally ≡ tally_of (calls (mine_of v).seen team)

-- What a tree keeps beside its table.
pub record IsTree (table : TableId) (about : About) (teams : ℕ) : Type 0 where
  pub teams_are : about.teams ≡ teams
  pub some_team : 0 < teams
  pub at_most : teams ≤ 16
  pub words : table.words ≡ 8 * teams + 1
  pub slots : table.slots ≡ 8 * teams
