-- The choicepoint tree as one thread has it. Branches lie under keys: in the hand of a team, or open in a cell, where
-- any team may take them (this project's own). A key is a list of clause numbers, as a code is. Nothing here knows
-- what a branch is.
use Rattle.std.specs.Prelude.{ℕ, suc, ◌+◌, ◌-◌, ◌*◌, ◌^◌, ◌≡◌, ◌≢◌, ◌<◌, ◌≤◌, Bool, cond, List, [], ◌∷◌, ◌++◌, map}
use Rattle.std.specs.Prelude.{length, get_or, set, replicate, flat_map, nat_eq, Contains}
use Rattle.std.specs.Cmp.Lexicographic.{pointwise}
use Rattle.and_model.specs.Prefixes.{IsPrefix}

abbrev pub Key : Type 0
Key = List ℕ

-- what a cell holds: nothing, a branch under a key, or nothing that is free yet, because a team is taking the branch
-- out
pub data Content : Type 0 where
  free : Content
  opened : Key → Content
  taking : (team : ℕ) → Content

-- The serial number tells how often the cell was opened.
pub record Cell : Type 0 where
  pub serial : ℕ
  pub content : Content

-- the hand of each team, and the cells
pub record State : Type 0 where
  pub hands : List (List Key)
  pub cells : List Cell

-- how a key ends: with an answer, with a branch that failed or outgrew the limit, or for want of memory
pub data Ending : Type 0 where
  answered : Ending
  retired : Ending
  given_up : Ending

-- what a look at a cell tells
pub data Seen : Type 0 where
  seen_free : Seen
  seen_open : (serial : ℕ) → Seen
  seen_taking : (team serial : ℕ) → Seen

-- what a team does
pub data Event : Type 0 where
  fork : (team : ℕ) (key longer : Key) (clauses : List ℕ) → Event
  publish : (team cell : ℕ) (key : Key) → Event
  claim : (team cell serial : ℕ) → Event
  clear : (team cell : ℕ) → Event
  end : (team : ℕ) (key : Key) (how : Ending) → Event
  look : (team cell : ℕ) → Event
  left : (team : ℕ) → Event

-- and what it is answered
pub data Reply : Type 0 where
  forked : Reply
  done : Reply
  not_free : Seen → Reply
  spent : Reply
  taken : Key → Reply
  moved : Seen → Reply
  cleared : Reply
  last : Bool → Reply
  seen : Seen → Reply
  number : ℕ → Reply

-- At the opening cell 0 is open with the empty key and serial 1. All else is empty.
abbrev pub opening : (teams : ℕ) → State
opening teams = record {
  hands = replicate teams [];
  cells = set (replicate (8 * teams) (record { serial = 0; content = free })) 0
      (record { serial = 1; content = opened [] });
}

-- the keys that the team has in hand; none for what is no team
abbrev pub hand_of : State → ℕ → List Key
hand_of s team = get_or s.hands team []

-- the cell of that number; one that is free for what is no cell
abbrev pub cell_of : State → ℕ → Cell
cell_of s cell = get_or s.cells cell (record { serial = 0; content = free })

-- the tree has the team, and the cell
abbrev pub IsTeam : State → ℕ → Type 0
IsTeam s team = team < length s.hands

abbrev pub IsCell : State → ℕ → Type 0
IsCell s cell = cell < length s.cells

-- the team has the key in hand
abbrev pub Holds : State → ℕ → Key → Type 0
Holds s team key = Contains (hand_of s team) key

-- the cells of a team, in which it may publish
abbrev pub Owns : (team cell : ℕ) → Type 0
Owns team cell = (8 * team ≤ cell) × (cell < 8 * team + 8)

-- the cell is open with this key, and was opened so often
abbrev pub IsOpen : State → (cell serial : ℕ) → Key → Type 0
IsOpen s cell serial key = cell_of s cell ≡ record { serial = serial; content = opened key }

-- A cell with this serial is opened no more.
abbrev pub last_serial : ℕ
last_serial = 2 ^ 48 - 1

abbrev pub seen_in : Cell → Seen
seen_in c = elim c.content [
  | free ↦ seen_free
  | opened key ↦ seen_open c.serial
  | taking team ↦ seen_taking team c.serial
]

-- the keys with these in the place of the first that is the key
abbrev pub in_place_of : Key → List Key → List Key → List Key
in_place_of key new [] = []
in_place_of key new (k ∷ keys) = cond (pointwise nat_eq key k) (new ++ keys) (k ∷ in_place_of key new keys)

-- the longer key with each of the clauses at its end
abbrev pub children : (longer : Key) (clauses : List ℕ) → List Key
children longer clauses = map (λ c. longer ++ c ∷ []) clauses

-- the state in which the team has these keys in the place of that one
abbrev pub with_keys : State → (team : ℕ) → Key → List Key → State
with_keys s team key new = record s { hands = set s.hands team (in_place_of key new (hand_of s team)) }

-- the state in which the key has joined the team's hand
abbrev pub joined : State → (team : ℕ) → Key → State
joined s team key = record s { hands = set s.hands team (hand_of s team ++ key ∷ []) }

-- the state in which the cell has this serial and content
abbrev pub with_cell : State → (cell serial : ℕ) → Content → State
with_cell s cell serial content = record s { cells = set s.cells cell (record { serial = serial; content = content }) }

abbrev pub keys_in : Cell → List Key
keys_in c = elim c.content [ free ↦ [] | opened key ↦ key ∷ [] | taking team ↦ [] ]

-- the keys in hand, and those in open cells
abbrev pub keys_left : State → List Key
keys_left s = flat_map (λ keys. keys) s.hands ++ flat_map keys_in s.cells

abbrev pub left_of : State → ℕ
left_of s = length (keys_left s)

-- Does s event reply next: what the event, where it may come, is answered in the state s, and the state after it.
pub data Does (s : State) : Event → Reply → State → Type 0 where
  -- A fork puts the children of the longer key in the place of a key in hand.
  forks : (team : ℕ) (key longer : Key) (clauses : List ℕ) → Holds s team key → IsPrefix key longer
      → Does s (fork team key longer clauses) forked (with_keys s team key (children longer clauses))
  -- A team publishes a key in hand in one of its own cells. The cell may be used up, or not free; else the key leaves
  -- the hand, and the cell is open with it.
  finds_spent : (team cell : ℕ) (key : Key) → IsCell s cell → Owns team cell → Holds s team key
      → (cell_of s cell).serial ≡ last_serial
      → Does s (publish team cell key) spent s
  finds_not_free : (team cell : ℕ) (key : Key) → IsCell s cell → Owns team cell → Holds s team key
      → (cell_of s cell).serial ≢ last_serial → (cell_of s cell).content ≢ free
      → Does s (publish team cell key) (not_free (seen_in (cell_of s cell))) s
  publishes : (team cell : ℕ) (key : Key) → IsCell s cell → Owns team cell → Holds s team key
      → (cell_of s cell).serial ≢ last_serial → (cell_of s cell).content ≡ free
      → Does s (publish team cell key) done
      (with_cell (with_keys s team key []) cell (suc (cell_of s cell).serial) (opened key))
  -- A team claims what is open in a cell under that serial: the key joins its hand, and the cell is being taken by
  -- it. Else it is told what is there.
  takes : (team cell serial : ℕ) (key : Key) → IsTeam s team → IsOpen s cell serial key
      → Does s (claim team cell serial) (taken key) (with_cell (joined s team key) cell serial (taking team))
  misses : (team cell serial : ℕ) → IsTeam s team → IsCell s cell → ((key : Key) → IsOpen s cell serial key → ⊥)
      → Does s (claim team cell serial) (moved (seen_in (cell_of s cell))) s
  -- The team that is taking clears the cell.
  clears : (team cell : ℕ) → (cell_of s cell).content ≡ taking team
      → Does s (clear team cell) cleared (with_cell s cell (cell_of s cell).serial free)
  -- A key in hand ends. The reply tells whether no key is left.
  ends : (team : ℕ) (key : Key) (how : Ending) → Holds s team key
      → Does s (end team key how) (last (nat_eq (left_of (with_keys s team key [])) 0)) (with_keys s team key [])
  looks : (team cell : ℕ) → IsTeam s team → IsCell s cell
      → Does s (look team cell) (seen (seen_in (cell_of s cell))) s
  counts : (team : ℕ) → IsTeam s team
      → Does s (left team) (number (left_of s)) s
