-- What the calls of teams on a choicepoint tree have done for the search of a program (this project's own; forks and
-- failures are those of the basic Andorra model: Santos Costa, Warren and Yang, 1991).
use Rattle.std.specs.Prelude.{ℕ, suc, ◌+◌, ◌<◌, ◌≤◌, ◌≡◌, ◌↔◌, Bool, true, false, ◌||◌, List, [], ◌∷◌, ◌++◌, flat_map}
use Rattle.std.specs.Prelude.{AllPairs, Contains}
use Rattle.and_model.specs.Programs.{Program}
use Rattle.and_model.specs.Trees.{QueryTree, Open, decided, weight}
use Rattle.and_model.specs.Prefixes.{IsPrefix}
use Rattle.and_model.specs.Reached.{Shut, Split, ReachedBy, Fork}
use Rattle.and_model.specs.Listing.{Entry}
use Rattle.and_histories.specs.PlainTree.{Key, Event, fork, publish, claim, clear, end, look, left, Ending, answered}
use Rattle.and_histories.specs.PlainTree.{retired, given_up}
use Rattle.and_histories.specs.Histories.{HistoryEntry, calls}
use Rattle.and_walk_laws.specs.Walks.{Walks}

-- The event only moves a key, or asks.
abbrev pub IsPassing : Event → Type 0
IsPassing (fork team key longer clauses) = ⊥
IsPassing (publish team cell key) = Unit {0}
IsPassing (claim team cell serial) = Unit {0}
IsPassing (clear team cell) = Unit {0}
IsPassing (end team key how) = ⊥
IsPassing (look team cell) = Unit {0}
IsPassing (left team) = Unit {0}

module _ (P : Program) (limit : ℕ) where
  -- The tree is Shut with open goals, and these are the clauses of its splits that fit. It is cut where some split
  -- does not fit.
  pub record IsForkedBy (t : QueryTree P) (clauses : List ℕ) (is_cut : Bool) : Type 0 where
    pub shut : Shut t
    pub open_goal : Open t
    pub rising : AllPairs (λ (c d : ℕ). c < d) clauses
    pub fitting : (c : ℕ) → Contains clauses c ↔ ((next : QueryTree P) × Split t c next × (weight next ≤ limit))
    pub heavy : (is_cut ≡ true) ↔ ((c : ℕ) × (next : QueryTree P) × Split t c next × (limit < weight next))

  -- The fork is of the leftmost goal of a Shut tree that is reached by its key, by exactly those of the goal's
  -- candidates that fit.
  pub record IsJustified (x : Fork) : Type 0 where
    pub tree : QueryTree P
    pub is_cut : Bool
    pub reached : ReachedBy P limit x.key tree
    pub longer : x.decided ≡ decided tree
    pub splits : IsForkedBy tree x.candidates is_cut

  -- Did event entries forks failed is_cut: what the event found and counted, and whether it cut off anything. A key
  -- ends for a tree that is reached by it, and whose walk finds one entry and counts nothing, or finds nothing. (All
  -- clauses of a goal may be too heavy: the walk counts a fork then, and is cut.) No key is given up.
  pub data Did : Event → List Entry → ℕ → ℕ → Bool → Type 0 where
    forked : (team : ℕ) (key : Key) (clauses : List ℕ) (t : QueryTree P) (is_cut : Bool) → ReachedBy P limit key t
        → IsForkedBy t clauses is_cut → Did (fork team key (decided t) clauses) [] 1 0 is_cut
    told : (team : ℕ) (key : Key) (t : QueryTree P) (entry : Entry) → ReachedBy P limit key t
        → Walks P limit t (entry ∷ []) 0 0 false → Did (end team key answered) (entry ∷ []) 0 0 false
    ended : (team : ℕ) (key : Key) (t : QueryTree P) (forks failed : ℕ) (is_cut : Bool) → ReachedBy P limit key t
        → Walks P limit t [] forks failed is_cut → (is_cut ≡ false → forks ≡ 0)
        → Did (end team key retired) [] forks failed is_cut
    passed : (event : Event) → IsPassing event → Did event [] 0 0 false

  -- what all events of a history did together
  pub data DidAll : List HistoryEntry → List Entry → ℕ → ℕ → Bool → Type 0 where
    none : DidAll [] [] 0 0 false
    more : (e : HistoryEntry) (history : List HistoryEntry) (entries others : List Entry)
        (forks failed more_forks more_failed : ℕ)
        (is_cut is_more_cut : Bool) → Did e.event entries forks failed is_cut
        → DidAll history others more_forks more_failed is_more_cut
        → DidAll (e ∷ history) (entries ++ others) (forks + more_forks) (failed + more_failed) (is_cut || is_more_cut)

-- what one team did
pub record Part : Type 0 where
  pub entries : List Entry
  pub forks : ℕ
  pub failed : ℕ
  pub is_cut : Bool

-- what the teams did from this number on, each by its own calls
abbrev pub DidParts : (P : Program) (limit : ℕ) → List HistoryEntry → (team : ℕ) → List Part → Type 0
DidParts P limit history team [] = Unit {0}
DidParts P limit history team (p ∷ parts) =
    DidAll P limit (calls history team) p.entries p.forks p.failed p.is_cut × DidParts P limit history (suc team) parts

-- what they did together, in order of teams
abbrev pub all_parts : List Part → Part
all_parts [] = record { entries = []; forks = 0; failed = 0; is_cut = false }
all_parts (p ∷ parts) = record {
  entries = p.entries ++ (all_parts parts).entries;
  forks = p.forks + (all_parts parts).forks;
  failed = p.failed + (all_parts parts).failed;
  is_cut = p.is_cut || (all_parts parts).is_cut;
}

-- ---- what stands in a history

-- the fork that an event makes
abbrev pub forks_in : Event → List Fork
forks_in (fork team key longer clauses) = record { key = key; decided = longer; candidates = clauses } ∷ []
forks_in (publish team cell key) = []
forks_in (claim team cell serial) = []
forks_in (clear team cell) = []
forks_in (end team key how) = []
forks_in (look team cell) = []
forks_in (left team) = []

abbrev pub forks_of : List HistoryEntry → List Fork
forks_of history = flat_map (λ (e : HistoryEntry). forks_in e.event) history

-- the key that ended so
abbrev pub answered_so : Ending → Key → List Key
answered_so answered key = key ∷ []
answered_so retired key = []
answered_so given_up key = []

abbrev pub retired_so : Ending → Key → List Key
retired_so answered key = []
retired_so retired key = key ∷ []
retired_so given_up key = []

abbrev pub given_up_so : Ending → Key → List Key
given_up_so answered key = []
given_up_so retired key = []
given_up_so given_up key = key ∷ []

-- the key that an event ends, if it ended so; other events end none
abbrev pub at_end : (Ending → Key → List Key) → Event → List Key
at_end so (fork team key longer clauses) = []
at_end so (publish team cell key) = []
at_end so (claim team cell serial) = []
at_end so (clear team cell) = []
at_end so (end team key how) = so how key
at_end so (look team cell) = []
at_end so (left team) = []

-- the key that an event answers, retires or gives up
abbrev pub answered_in : Event → List Key
answered_in event = at_end answered_so event

abbrev pub retired_in : Event → List Key
retired_in event = at_end retired_so event

abbrev pub given_up_in : Event → List Key
given_up_in event = at_end given_up_so event

abbrev pub keys_answered : List HistoryEntry → List Key
keys_answered history = flat_map (λ (e : HistoryEntry). answered_in e.event) history

abbrev pub keys_retired : List HistoryEntry → List Key
keys_retired history = flat_map (λ (e : HistoryEntry). retired_in e.event) history

abbrev pub keys_given_up : List HistoryEntry → List Key
keys_given_up history = flat_map (λ (e : HistoryEntry). given_up_in e.event) history

-- Each key is a prefix of the code of its entry.
abbrev pub AreAnswers : List Key → List Entry → Type 0
AreAnswers [] [] = Unit {0}
AreAnswers [] (e ∷ entries) = ⊥
AreAnswers (key ∷ keys) [] = ⊥
AreAnswers (key ∷ keys) (e ∷ entries) = IsPrefix key e.code × AreAnswers keys entries
