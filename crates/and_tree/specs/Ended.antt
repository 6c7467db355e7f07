-- What a shared tree leaves (this project's own).
use Rattle.std.specs.Prelude.{ℕ, ◌≡◌, List, [], ◌∷◌, map, All}
use Rattle.and_model.specs.Prefixes.{IsPrefix}
use Rattle.and_histories.specs.Histories.{HistoryEntry, Legal, calls}
use Rattle.and_tree.specs.Plain.{Tally, none_yet, added}
use Rattle.and_tree.specs.Sight.{About, Member, Sight, longer_of}
use Rattle.and_tree.specs.Passes.{PassSeen, tally_of}

-- a team, and what its pass has seen
abbrev pub of_member : Member → ℕ × List HistoryEntry
of_member m = (m.team, m.seen)

abbrev pub of_pass : PassSeen → ℕ × List HistoryEntry
of_pass p = (p.team, p.seen)

-- The seat has the passes of all these.
pub record IsGathered (a : About) (v : Sight) (passes : List PassSeen) : Type 0 where
  pub about : v.about ≡ a
  pub each : map of_member v.members ≡ map of_pass passes

-- the sums of what the calls of all these count
abbrev pub tally_of_all : List PassSeen → Tally
tally_of_all [] = none_yet
tally_of_all (p ∷ passes) = added (tally_of (calls p.seen p.team)) (tally_of_all passes)

-- the longest history that some of them have seen
abbrev pub history_of : List Member → List HistoryEntry
history_of [] = []
history_of (m ∷ members) = longer_of m.seen (history_of members)

-- the history, as the passes of the last seat have seen it
abbrev pub history_in : List Sight → List HistoryEntry
history_in [] = []
history_in (v ∷ views) = history_of v.members

-- What a tree leaves: one legal history of all calls, as each pass has seen its beginning and its team's calls, and
-- what it counts.
pub record Closes (a : About) (passes : List PassSeen) (history : List HistoryEntry) (tally : Tally) : Type 0 where
  pub legal : Legal a.teams history
  pub begins : All (λ (p : PassSeen). IsPrefix p.seen history) passes
  pub own : All (λ (p : PassSeen). calls history p.team ≡ calls p.seen p.team) passes
  pub counted : tally ≡ tally_of history
