-- Whole runs of teams on a choicepoint tree (this project's own; forks are those of the basic Andorra model: Santos
-- Costa, Warren and Yang, 1991).
use Rattle.std.specs.Prelude.{ℕ, ◌≡◌, ◌<◌, ◌≤◌, Bool, List, [], AllPairs}
use Rattle.and_model.specs.Programs.{Program}
use Rattle.and_model.specs.Trees.{query_agenda, blank, weight}
use Rattle.and_model.specs.Reached.{Fork, Forks}
use Rattle.and_model.specs.Listing.{Entry}
use Rattle.and_histories.specs.PlainTree.{State, opening, left_of}
use Rattle.and_histories.specs.Histories.{HistoryEntry, Carries}
use Rattle.and_laws.specs.CodeOrder.{Rises}
use Rattle.and_team_laws.specs.Owed.{SameItems}
use Rattle.and_team_laws.specs.Done.{DidAll, forks_of}

-- The query fits, the history of so many teams leads from the opening to where no key is left, and this is what its
-- events did together.
pub record WholeRun (P : Program) (limit teams : ℕ) (history : List HistoryEntry) (entries : List Entry)
    (forks failed : ℕ) (is_cut : Bool) : Type 0 where
  pub some_team : 0 < teams
  pub fits : weight (blank {P = P} (query_agenda P)) ≤ limit
  pub state : State
  pub carried : Carries (opening teams) history state
  pub none_left : left_of state ≡ 0
  pub did : DidAll P limit history entries forks failed is_cut

-- the forks of the history, each once, in the order of their keys
pub record AreInOrder (history : List HistoryEntry) (ordered : List Fork) : Type 0 where
  pub same : SameItems (forks_of history) ordered
  pub rising : AllPairs Rises ordered

-- They are those of the exploration of the query, too.
pub record AreForksOfQuery (P : Program) (history : List HistoryEntry) (ordered : List Fork) : Type 0 where
  pub in_order : AreInOrder history ordered
  pub forks : Forks (blank {P = P} (query_agenda P)) [] ordered
