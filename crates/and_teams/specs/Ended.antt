-- Teams before they begin and when all are done (this project's own).
use Rattle.std.specs.Prelude.{ℕ, suc, ◌≡◌, ◌<◌, Bool, true, false, List, [], ◌∷◌, ◌++◌, length, All, Option, None, Some}
use Rattle.and_model.specs.Programs.{Program}
use Rattle.and_model.specs.Trees.{blank, query_agenda, weight}
use Rattle.and_model.specs.declared.goal
use Rattle.and_model.specs.Reached.{Fork}
use Rattle.and_model.specs.Listing.{Entry}
use Rattle.and_histories.specs.Histories.{HistoryEntry}
use Rattle.and_histories.specs.Covering.{AreCovering}
use Rattle.and_tree.specs.Passes.{TreeId, PassSeen, fresh}
use Rattle.and_tree.specs.Plain.{Tally}
use Rattle.and_tree.specs.Counted.{tally}
use Rattle.and_tree.specs.Ended.{history_in}
use Rattle.and_tree.specs.declared.closing.ClosedTree.{ClosedTree}
use Rattle.and_team_laws.specs.Owed.{SameItems}
use Rattle.and_team_laws.specs.Done.{IsJustified, forks_of, keys_answered, keys_retired, keys_given_up, AreAnswers}
use Rattle.and_team_laws.specs.Runs.{WholeRun, AreInOrder, AreForksOfQuery}
use Rattle.and_answers.specs.Kept.{listed, Merges}
use Rattle.and_answers.specs.declared.found.Found.{Found}
use Rattle.and_search_laws.specs.Found.{kept_count}
use Rattle.and_cells.specs.declared.naming.Naming.{Ghosts}
use Rattle.and_tasks.specs.Working.{IsDone}
use Rattle.and_teams.specs.declared.work.Beginning.{Beginning}
use Rattle.and_teams.specs.declared.work.Worked.{Worked}

-- The team of this number has done nothing.
pub record IsFresh {N : Type 0} {G : Ghosts N} (tree : TreeId) (number : ℕ) (t : Beginning N G) : Type 0 where
  pub number_is : t.number ≡ number
  pub pass_is : t.pass ≡ fresh tree number

-- So it is of all teams from this number on.
abbrev pub AreFresh : {N : Type 0} {G : Ghosts N} → TreeId → (number : ℕ) → List (Beginning N G) → Type 0
AreFresh tree number [] = Unit {0}
AreFresh tree number (t ∷ teams) = IsFresh tree number t × AreFresh tree (suc number) teams

-- The team of this number has worked: it is done, or after want of memory no key is in its hand.
pub record IsWorked {N : Type 0} (P : Program) (tree : TreeId) (number : ℕ)
    (w : Worked N) : Type 0 where
  pub number_is : w.pass.team ≡ number
  pub of_tree : w.pass.tree ≡ tree
  pub done : w.has_failed ≡ false → IsDone P tree w.pass w.found
  pub given_up : w.has_failed ≡ true → w.pass.hand ≡ []

-- So it is of all teams from this number on.
abbrev pub AreDone : {N : Type 0} → Program → TreeId → (number : ℕ) → List (Worked N) → Type 0
AreDone P tree number [] = Unit {0}
AreDone P tree number (w ∷ worked) = IsWorked P tree number w × AreDone P tree (suc number) worked

-- None met want of memory. What was found is what all found, those of the last in the list first, and these are their
-- passes.
abbrev pub AllFound : {N : Type 0} → List (Worked N) → Found → List PassSeen → Type 0
AllFound [] found passes = (listed found ≡ []) × (found.forks ≡ 0) × (found.failed ≡ 0)
    × (found.cut ≡ None) × (passes ≡ [])
AllFound (w ∷ worked) found passes =
    (w.has_failed ≡ false) × (others : Found) × (rest : List PassSeen) × AllFound worked others rest
    × Merges others w.found found × (passes ≡ rest ++ w.pass ∷ [])

-- The counts are those of what stands in the history.
pub record IsTallyOf (history : List HistoryEntry) (counts : Tally) : Type 0 where
  pub forks : counts.forks ≡ kept_count (length (forks_of history))
  pub answers : counts.answers ≡ kept_count (length (keys_answered history))
  pub retired : counts.retired ≡ kept_count (length (keys_retired history))
  pub given_up : counts.given_up ≡ kept_count (length (keys_given_up history))

-- What the tree of a run leaves, whatever was cut off: a history of all teams, until no key was left, and what it did
-- is what was found; a cut is told exactly where something was cut off. Each fork of it is of the leftmost goal of a
-- Shut tree, by exactly those of its candidates that fit, and leaves no code out; no key is forked twice, so the forks
-- have an order. The keys that were answered are prefixes of the codes of the entries, each of its own; none was given
-- up. The tree counts what stands in the history. Where nothing was cut off, its forks, in the order of their keys,
-- are those of the exploration of the query.
pub record IsRun (P : Program) (limit teams : ℕ) (found : Found) (history : List HistoryEntry)
    (counts : Tally) : Type 0 where
  pub entries : List Entry
  pub forks : ℕ
  pub failed : ℕ
  pub is_cut : Bool
  pub run : WholeRun P limit teams history entries forks failed is_cut
  pub same : SameItems entries (listed found)
  pub failed_are : found.failed ≡ kept_count failed
  pub whole : found.cut ≡ None → (is_cut ≡ false) × (found.forks ≡ kept_count forks)
  pub cut_off : (cut : goal.Cut.Cut) → found.cut ≡ Some cut → is_cut ≡ true
  pub justified : All (λ (x : Fork). IsJustified P limit x) (forks_of history)
  pub covering : AreCovering P limit history
  pub ordered : List Fork
  pub in_order : AreInOrder history ordered
  pub of_query : found.cut ≡ None → AreForksOfQuery P history ordered
  pub answered : AreAnswers (keys_answered history) entries
  pub none_given_up : keys_given_up history ≡ []
  pub counted : IsTallyOf history counts
  pub forks_are : counts.forks ≡ found.forks

-- There is no tree exactly where the query by itself is too heavy.
abbrev pub IsRunOf : Program → (limit teams : ℕ) → Found → Option ClosedTree → Type 0
IsRunOf P limit teams found None = limit < weight (blank {P = P} (query_agenda P))
IsRunOf P limit teams found (Some closed) =
    IsRun P limit teams found (history_in closed.last.value.views) (tally closed.counts)
