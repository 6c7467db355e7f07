-- The nine kinds of step of a store, each as a relation between what was before and what is after (this project's own).
use Rattle.std.specs.Prelude.{ℕ, ◌+◌, ◌*◌, ◌≡◌, ◌≢◌, ◌<◌, ◌≤◌, ◌⊎◌, Bool, true, false, cond, List, [], ◌∷◌, ◌++◌, map}
use Rattle.std.specs.Prelude.{length, Option, None, Some, nat_eq, slice_set, Contains}
use Rattle.and_model.specs.Store.{Setting, Frame, HungGoal, Made, sets, gives, fails, hangs, JournalEntry, Known}
use Rattle.and_model.specs.Store.{Asked, Missed, word, fail_word, Waiting, empty, occupied, closed, IsWritten}
use Rattle.and_model.specs.Store.{is_half, is_free}
use Rattle.and_cells.specs.Ranges.{CanHold, IsGoalInRange}
use Rattle.and_model.specs.declared.goal.Goal.{Goal}
use Rattle.and_model.specs.declared.reference.Ref.{Ref}
use Rattle.and_model.specs.declared.reference.Ref.TheVariants.{Free, Number}
use Rattle.and_store_laws.specs.AtWork.{Opening, Member, Seat, Held, word_at, place_at, over, most}

abbrev pub setting : (place : ℕ) → Ref → Setting
setting place r = record { place = place; value = r }

abbrev pub entry : (pass : ℕ) → Made → JournalEntry
entry pass made = record { pass = pass; made = made }

abbrev pub seat : (shares made : ℕ) → List Member → Seat
seat shares made members = record { shares = shares; made = made; members = members }

-- One seat's first pass goes on from m to n, and nothing else of the seats changes.
pub record Moves (before after : List Seat) (m n : Member) : Type 0 where
  pub front : List Seat
  pub back : List Seat
  pub shares : ℕ
  pub made : ℕ
  pub others : List Member
  pub was : before ≡ front ++ seat shares made (m ∷ others) ∷ back
  pub becomes : after ≡ front ++ seat shares made (n ∷ others) ∷ back

-- a setting of this place is known
abbrev pub knows_place : (place : ℕ) → List Known → Bool
knows_place place [] = false
knows_place place (k ∷ ks) = cond (nat_eq k.setting.place place) true (knows_place place ks)

-- what is known after a word was found: a setting that is known is not added again
abbrev pub learnt : (place : ℕ) → Ref → List Known → List Known
learnt place r known =
    cond (is_free r) known (cond (knows_place place known) known
    (known ++ record { setting = setting place r; is_own = false } ∷ []))

abbrev pub missing : (place : ℕ) → Ref → List Missed
missing place r = cond (is_free r) (word place ∷ []) []

-- ---- a look at a word, and a wish to set one that is set already

abbrev pub looked : (place : ℕ) → Ref → List JournalEntry → Member → Member
looked place r journal m =
    record m {
      pass = record m.pass {
        seen = journal;
        known = learnt place r m.pass.known;
        missed = m.pass.missed ++ missing place r;
      };
    }

pub record Looks (place : ℕ) (before : List Seat) (h : Held) (after : List Seat) (k : Held) : Type 0 where
  pub m : Member
  pub moves : Moves before after m (looked place (word_at h.row place) h.journal m)
  pub held : k ≡ h

-- ---- a word is set

abbrev pub own_entry : (place : ℕ) → Ref → Member → JournalEntry
own_entry place to m = entry m.pass.number (sets (setting place to))

abbrev pub set_as : (place : ℕ) → Ref → List JournalEntry → Member → Member
set_as place to journal m = record {
  pass = record m.pass {
    seen = journal ++ own_entry place to m ∷ [];
    mine = m.pass.mine ++ setting place to ∷ [];
    known = m.pass.known ++ record { setting = setting place to; is_own = true } ∷ [];
  };
  pending = cond (is_half to) None (Some place);
}

-- a pass knows that both words of this pair are set: it knows both, or a cell that is set to the number
abbrev pub KnowsWritten : List Known → (pair : ℕ) → Type 0
KnowsWritten known pair =
    IsWritten (map (λ (k : Known). k.setting) known) pair
    ⊎ ((cell : ℕ) × Contains (map (λ (k : Known). k.setting) known) (setting cell (Number pair)))

-- The word is free, and the pass, which is not inside a call, sets it.
pub record SetsWord (o : Opening) (place : ℕ) (to : Ref) (before : List Seat) (h : Held) (after : List Seat)
    (k : Held) : Type 0 where
  pub m : Member
  pub within : place < o.words
  pub is_set : to ≢ Free
  pub fits : CanHold o.program o.words place to
  pub written : (pair : ℕ) → to ≡ Number pair → KnowsWritten m.pass.known pair
  pub at_rest : m.pending ≡ None
  pub free : word_at h.row place ≡ Free
  pub moves : Moves before after m (set_as place to h.journal m)
  pub held : k ≡ record h { row = slice_set h.row place to; journal = h.journal ++ own_entry place to m ∷ [] }

-- ---- a frame is taken

abbrev pub asked_for : (weight : ℕ) → Held → Asked
asked_for weight h = record { mark = h.mark; weight = weight }

abbrev pub frame_at : (weight : ℕ) → Held → Frame
frame_at weight h = record { base = h.mark; weight = weight }

abbrev pub given : (weight : ℕ) → Held → Member → Member
given weight h m = record m {
  pass = record m.pass {
    seen = h.journal ++ entry m.pass.number (gives (frame_at weight h)) ∷ [];
    frames = m.pass.frames ++ frame_at weight h ∷ [];
    asked = m.pass.asked ++ asked_for weight h ∷ [];
  };
}

abbrev pub refused : (weight : ℕ) → Held → Member → Member
refused weight h m = record m
    { pass = record m.pass { seen = h.journal; asked = m.pass.asked ++ asked_for weight h ∷ [] } }

-- The mark is raised. Where it fits in the words, the pass has the frame. (A pass that got none before makes no step.)
pub record TakesFrame (o : Opening) (weight : ℕ) (before : List Seat) (h : Held) (after : List Seat)
    (k : Held) : Type 0 where
  pub m : Member
  pub weight_below : weight ≤ most
  pub none_over : over o.words m.pass.asked ≡ []
  pub steps :
      ((h.mark + weight ≤ o.words) × Moves before after m (given weight h m)
      × (k ≡ record h {
        mark = h.mark + weight;
        journal = h.journal ++ entry m.pass.number (gives (frame_at weight h)) ∷ [];
      }))
      ⊎ ((o.words < h.mark + weight) × Moves before after m (refused weight h m)
      × (k ≡ record h { mark = h.mark + weight }))

-- ---- the fail word is raised, and looked at

abbrev pub failed_as : List JournalEntry → Member → Member
failed_as journal m = record m
    { pass = record m.pass { seen = journal ++ entry m.pass.number fails ∷ []; fails = m.pass.fails ++ tt ∷ [] } }

pub record Fails (before : List Seat) (h : Held) (after : List Seat) (k : Held) : Type 0 where
  pub m : Member
  pub moves : Moves before after m (failed_as h.journal m)
  pub held : k ≡ record h { is_failed = true; journal = h.journal ++ entry m.pass.number fails ∷ [] }

abbrev pub asks_failed : Bool → List JournalEntry → Member → Member
asks_failed is_failed journal m =
    record m { pass = record m.pass { seen = journal; missed = m.pass.missed ++ cond is_failed [] (fail_word ∷ []) } }

pub record LooksFailed (before : List Seat) (h : Held) (after : List Seat) (k : Held) : Type 0 where
  pub m : Member
  pub moves : Moves before after m (asks_failed h.is_failed h.journal m)
  pub held : k ≡ h

-- ---- a goal is hung

-- the next waiter of a pass
abbrev pub next_waiter : Opening → Member → ℕ
next_waiter o m = m.pass.number * o.waiters + length m.pass.hung

abbrev pub goal_of : Opening → (cell : ℕ) → Goal → Member → HungGoal
goal_of o cell goal m = record { waiter = next_waiter o m; cell = cell; goal = goal }

abbrev pub hung_as : HungGoal → List JournalEntry → Member → Member
hung_as g journal m = record m
    { pass = record m.pass { seen = journal ++ entry m.pass.number (hangs g) ∷ []; hung = m.pass.hung ++ g ∷ [] } }

abbrev pub not_hung : (cell : ℕ) → Waiting → List JournalEntry → Member → Member
not_hung cell place journal m = record m {
  pass =
      record m.pass { seen = journal; found = m.pass.found ++ record { cell = cell; place = place } ∷ [] };
}

pub record Hangs (o : Opening) (cell : ℕ) (goal : Goal) (before : List Seat) (h : Held) (after : List Seat)
    (k : Held) : Type 0 where
  pub m : Member
  pub within : cell < o.words
  pub in_range : IsGoalInRange o.program o.words goal
  pub waiter_left : length m.pass.hung < o.waiters
  pub steps :
      ((place_at h.places cell ≡ empty) × Moves before after m (hung_as (goal_of o cell goal m) h.journal m)
      × (k ≡ record h {
        places = slice_set h.places cell (occupied (next_waiter o m));
        journal = h.journal ++ entry m.pass.number (hangs (goal_of o cell goal m)) ∷ [];
      }))
      ⊎ ((place_at h.places cell ≢ empty) × Moves before after m (not_hung cell (place_at h.places cell) h.journal m)
      × (k ≡ h))

-- ---- a place is taken

abbrev pub waiter_in : Waiting → Option ℕ
waiter_in empty = None
waiter_in (occupied waiter) = Some waiter
waiter_in closed = None

abbrev pub taken : (cell : ℕ) → Waiting → List JournalEntry → Member → Member
taken cell place journal m = record {
  pass = record m.pass { seen = journal; took = m.pass.took ++ record { cell = cell; waiter = waiter_in place } ∷ [] };
  pending = None;
}

pub record TakesPlace (before : List Seat) (h : Held) (after : List Seat) (k : Held) : Type 0 where
  pub m : Member
  pub cell : ℕ
  pub pends : m.pending ≡ Some cell
  pub moves : Moves before after m (taken cell (place_at h.places cell) h.journal m)
  pub held : k ≡ record h { places = slice_set h.places cell closed }

-- ---- a seat is split, and two are joined

abbrev pub blank : (number : ℕ) → Member
blank number = record {
  pass = record {
    number = number;
    seen = [];
    known = [];
    mine = [];
    frames = [];
    asked = [];
    fails = [];
    missed = [];
    hung = [];
    took = [];
    found = [];
  };
  pending = None;
}

-- The seat that makes passes gives some of its shares to a new seat, with a new pass.
pub record Splits (o : Opening) (before : List Seat) (h : Held) (after : List Seat) (k : Held) : Type 0 where
  pub front : List Seat
  pub back : List Seat
  pub left : ℕ
  pub right : ℕ
  pub made : ℕ
  pub members : List Member
  pub some_left : 0 < left
  pub some_right : 0 < right
  pub makes : 0 < made
  pub room : made < o.seats
  pub was : before ≡ front ++ seat (left + right) made members ∷ back
  pub becomes : after ≡ (front ++ seat left (made + 1) members ∷ back) ++ seat right 0 (blank made ∷ []) ∷ []
  pub held : k ≡ h

-- Two seats, of which one takes in the other's shares and passes.
pub record Joins (before : List Seat) (h : Held) (after : List Seat) (k : Held) : Type 0 where
  pub front : List Seat
  pub between : List Seat
  pub back : List Seat
  pub v : Seat
  pub w : Seat
  pub steps :
      ((before ≡ front ++ v ∷ (between ++ w ∷ back))
      × (after ≡ front ++ seat (v.shares + w.shares) v.made (v.members ++ w.members) ∷ (between ++ seat 0 0 [] ∷ back)))
      ⊎ ((before ≡ front ++ w ∷ (between ++ v ∷ back))
      × (after ≡ front ++ seat 0 0 [] ∷ (between ++ seat (v.shares + w.shares) v.made (v.members ++ w.members) ∷ back)))
  pub held : k ≡ h
