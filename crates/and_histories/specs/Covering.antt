-- Forks that leave no code out (this project's own).
use Rattle.std.specs.Prelude.{ℕ, ◌≡◌, ◌≤◌, Bool, true, false, ◌&&◌, List, [], ◌∷◌, nat_eq, count_by, flat_map, All}
use Rattle.and_model.specs.Prefixes.{IsPrefix}
use Rattle.and_model.specs.Programs.{Program}
use Rattle.and_model.specs.Trees.{QueryTree, HasOutcome, weight}
use Rattle.and_model.specs.Trees
use Rattle.and_histories.specs.PlainTree.{Key, Event, fork, publish, claim, clear, end, look, left, children}
use Rattle.and_histories.specs.Histories.{HistoryEntry}

-- the code of a proof that has an outcome, and weighs at most the limit
abbrev pub HasOutcomeWithin : Program → (limit : ℕ) → (code : List ℕ) → Type 0
HasOutcomeWithin P limit code = (t : QueryTree P) × HasOutcome t × (weight t ≤ limit) × (Trees.code t ≡ code)

-- whether the code begins with the key
abbrev pub begins : (code : List ℕ) → Key → Bool
begins code [] = true
begins [] (k ∷ key) = false
begins (c ∷ code) (k ∷ key) = nat_eq c k && begins code key

-- with how many of the keys the code begins
abbrev pub keys_begun : (code : List ℕ) → List Key → ℕ
keys_begun code keys = count_by (begins code) keys

-- A fork is covering where each such code that begins with its key begins with exactly one of the keys that take its
-- place.
abbrev pub IsCovering : Program → (limit : ℕ) → Event → Type 0
IsCovering P limit (fork team key longer clauses) =
    (code : List ℕ) → HasOutcomeWithin P limit code → IsPrefix key code → keys_begun code (children longer clauses) ≡ 1
IsCovering P limit (publish team cell key) = Unit {0}
IsCovering P limit (claim team cell serial) = Unit {0}
IsCovering P limit (clear team cell) = Unit {0}
IsCovering P limit (end team key how) = Unit {0}
IsCovering P limit (look team cell) = Unit {0}
IsCovering P limit (left team) = Unit {0}

abbrev pub AreCovering : Program → (limit : ℕ) → List HistoryEntry → Type 0
AreCovering P limit history = All (λ e. IsCovering P limit e.event) history

-- the keys that a fork brings
abbrev pub brought : Event → List Key
brought (fork team key longer clauses) = children longer clauses
brought (publish team cell key) = []
brought (claim team cell serial) = []
brought (clear team cell) = []
brought (end team key how) = []
brought (look team cell) = []
brought (left team) = []

-- the key that a fork takes away
abbrev pub replaced : Event → List Key
replaced (fork team key longer clauses) = key ∷ []
replaced (publish team cell key) = []
replaced (claim team cell serial) = []
replaced (clear team cell) = []
replaced (end team key how) = []
replaced (look team cell) = []
replaced (left team) = []

-- the key that ends
abbrev pub ended : Event → List Key
ended (fork team key longer clauses) = []
ended (publish team cell key) = []
ended (claim team cell serial) = []
ended (clear team cell) = []
ended (end team key how) = key ∷ []
ended (look team cell) = []
ended (left team) = []

-- the keys that ended in a history
abbrev pub keys_ended : List HistoryEntry → List Key
keys_ended history = flat_map (λ (e : HistoryEntry). ended e.event) history
