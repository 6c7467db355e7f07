-- Where a word of a table is, and weaker things that a step tells.
use Rattle.std.proofs.Common.{ℕ, ◌+◌, ◌*◌, ◌≡◌, ◌<◌, List, [], ◌∷◌, Option, None, Some, arith, sym, ap, subst, ◌∙◌}
use Rattle.atomic_table.specs.Seated.{TableId}
use Rattle.atomic_table.specs.Table.{State, Allows, Me}
use Rattle.and_histories.specs.PlainTree.{Key, Event, fork, publish, claim, clear, end, look, left, Owns}
use Rattle.and_tree.specs.Sight.{About}
use Rattle.and_tree.specs.Passes.{IsTree}

pub live_in : (table : TableId) (about : About) (teams : ℕ) → IsTree table about teams → 0 < table.words
live_in table about teams t = let e = t.words in omega (arith, e)

pub cell_in : (table : TableId) (about : About) (teams : ℕ) → IsTree table about teams → (cell : ℕ) → cell < 8 * about.teams → cell + 1 < table.words
cell_in table about teams t cell below = let e = t.words in let f = t.teams_are in omega (arith, e, f, below)

-- A cell of its own is one of the tree's.
pub own_below : (team cell teams : ℕ) → Owns team cell → team < teams → cell < 8 * teams
own_below team cell teams own below = let a = own.1 in omega (arith, a, below)

pub tells_less : {S V : Type 0} (holds : State S V → Type 0) (slots id : ℕ) (me : Me S V) (i : ℕ) (f : ℕ → ℕ) (one other : ℕ → Me S V → Type 0)
    → ((n : ℕ) (after : Me S V) → one n after → other n after) → Allows holds slots id me i f one → Allows holds slots id me i f other
tells_less holds slots id me i f one other less allows s h homes at small =
    let so = allows s h homes at small in (so.0, so.1, so.2, so.3, less _ _ so.4)

-- the key of the branch in the slot that was taken last
abbrev pub key_in_slot : {B : Type 0} → (B → Key) → List (ℕ × Option B) → Key
key_in_slot key_of [] = []
key_in_slot key_of ((cell, None) ∷ slots) = []
key_in_slot key_of ((cell, Some branch) ∷ slots) = key_of branch

-- ---- which cell, key and serial an event names

abbrev cell_in_event : Event → ℕ
cell_in_event (fork team key longer clauses) = 0
cell_in_event (publish team cell key) = cell
cell_in_event (claim team cell serial) = cell
cell_in_event (clear team cell) = cell
cell_in_event (end team key how) = 0
cell_in_event (look team cell) = cell
cell_in_event (left team) = 0

abbrev key_in_event : Event → Key
key_in_event (fork team key longer clauses) = key
key_in_event (publish team cell key) = key
key_in_event (claim team cell serial) = []
key_in_event (clear team cell) = []
key_in_event (end team key how) = key
key_in_event (look team cell) = []
key_in_event (left team) = []

abbrev serial_in_event : Event → ℕ
serial_in_event (fork team key longer clauses) = 0
serial_in_event (publish team cell key) = 0
serial_in_event (claim team cell serial) = serial
serial_in_event (clear team cell) = 0
serial_in_event (end team key how) = 0
serial_in_event (look team cell) = 0
serial_in_event (left team) = 0

pub publishes_so : (X : ℕ → Key → Type 0) (event : Event) (team cell other : ℕ) (key another : Key) → event ≡ publish team cell key
    → event ≡ publish team other another → X cell key → X other another
publishes_so X event team cell other key another e f x =
    subst (λ c. X c another) (ap cell_in_event (sym e ∙ f)) (subst (X cell) (ap key_in_event (sym e ∙ f)) x)

pub claims_so : (X : ℕ → ℕ → Type 0) (event : Event) (team cell other serial another : ℕ) → event ≡ claim team cell serial
    → event ≡ claim team other another → X cell serial → X other another
claims_so X event team cell other serial another e f x =
    subst (λ c. X c another) (ap cell_in_event (sym e ∙ f)) (subst (X cell) (ap serial_in_event (sym e ∙ f)) x)
