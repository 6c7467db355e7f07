-- What the calls of a pass make of it (this project's own).
use Rattle.std.specs.Prelude.{ℕ, suc, ◌*◌, length, ℤ, Bool, cond, ◌↔◌, ◌+◌, ◌≡◌, ◌≢◌, ◌<◌, ◌≤◌, ◌⊎◌, true, List, []}
use Rattle.std.specs.Prelude.{◌∷◌, ◌++◌, map, Option, Some, option_to_list, Contains}
use Rattle.and_model.specs.Store.{Setting, Made, sets, gives, fails, hangs, fail_word, HungGoal, JournalEntry, Known}
use Rattle.and_model.specs.Store.{Waiting, closed, occupied, Found, Pass, settings_of, fails_of, hung_of, set_in}
use Rattle.and_model.specs.Store.{entries_by}
use Rattle.and_model.specs.declared.goal.Goal.{Goal}
use Rattle.and_model.specs.declared.reference.Ref.{Ref}
use Rattle.and_model.specs.declared.reference.Ref.TheVariants.{Free}
use Rattle.and_cells.specs.Numbers.{number_of, high_half, low_half}
use Rattle.and_cells.specs.Ranges.{NamedProgram, CanHold, IsGoalInRange}
use Rattle.and_store_laws.specs.AtWork.{WasHung, over}
use Rattle.and_store_laws.specs.Steps.{setting, entry, learnt, missing, KnowsWritten}
use Rattle.and_store.specs.Passes.{PassSeen}
use Rattle.and_store.specs.Sight.{About}

-- A step: the pass has seen all of the journal. What it had not seen yet were entries of others, and then those that
-- this step made.
pub record Sees (made : List Made) (p q : Pass) : Type 0 where
  pub since : List JournalEntry
  pub of_others : entries_by p since ≡ []
  pub seen : q.seen ≡ (p.seen ++ since) ++ map (entry p.number) made

-- what the word of a cell is when a row, which began with this one, has the settings of this journal
abbrev pub IsWordAfter : (first : List Ref) → List JournalEntry → (cell : ℕ) → Ref → Type 0
IsWordAfter first journal cell r =
    (r ≢ Free → Contains (set_in first ++ settings_of journal) (setting cell r))
    × (r ≡ Free → (s : Setting) → Contains (set_in first ++ settings_of journal) s → s.place ≢ cell)

-- A look at a cell found r there. Where r is not `Free` the pass knows it from now on; what it knew was so.
pub record LooksAt (P : NamedProgram) (a : About) (cell : ℕ) (r : Ref) (p q : Pass) : Type 0 where
  pub sees : Sees [] p q
  pub becomes : q ≡ record p { seen = q.seen; known = learnt cell r p.known; missed = p.missed ++ missing cell r }
  pub as_known : (k : Known) → Contains p.known k → k.setting.place ≡ cell → (r ≡ k.setting.value) × (r ≢ Free)
  -- A word of a pair that the pass knows to be written is set.
  pub written : (pair : ℕ) → KnowsWritten p.known pair → (cell ≡ pair) ⊎ (cell ≡ suc pair) → r ≢ Free
  -- So is a cell whose place the pass found closed.
  pub place_closed : (f : Found) → Contains p.found f → f.place ≡ closed → f.cell ≡ cell → r ≢ Free
  -- At this step the word was r.
  pub is_word : IsWordAfter a.first q.seen cell r
  pub fits : CanHold P a.words cell r

-- The pass set the word of a cell, of which it knew nothing, and which was free until then.
pub record SetsCell (a : About) (cell : ℕ) (to : Ref) (p q : Pass) : Type 0 where
  pub sees : Sees (sets (setting cell to) ∷ []) p q
  pub becomes : q ≡ record p {
    seen = q.seen;
    mine = p.mine ++ setting cell to ∷ [];
    known = p.known ++ record { setting = setting cell to; is_own = true } ∷ [];
  }
  pub not_known : (k : Known) → Contains p.known k → k.setting.place ≢ cell
  pub was_free : (s : Setting) → Contains (set_in a.first ++ settings_of (p.seen ++ sees.since)) s → s.place ≢ cell

-- The pass closed the place of a cell. The waiter that was there had been hung on this cell, and the pass keeps it.
pub record ClosesPlace (cell : ℕ) (p q : Pass) (kept after : List ℕ) : Type 0 where
  pub waiter : Option ℕ
  pub sees : Sees [] p q
  pub becomes : q ≡ record p { seen = q.seen; took = p.took ++ record { cell = cell; waiter = waiter } ∷ [] }
  pub was_hung : (w : ℕ) → waiter ≡ Some w → WasHung q.seen w cell
  pub keeps : after ≡ kept ++ option_to_list waiter

-- The pass set the cell, and then closed its place.
pub record Wins (a : About) (cell : ℕ) (to : Ref) (p q : PassSeen) : Type 0 where
  pub between : Pass
  pub set : SetsCell a cell to p.pass between
  pub closes : ClosesPlace cell between q.pass p.kept q.kept

-- A word of a pair was set to a half, or found set.
abbrev pub FillsWord : NamedProgram → About → (place : ℕ) → (half r : Ref) → (p q : Pass) → Type 0
FillsWord P a place half r p q = (SetsCell a place half p q × (r ≡ half)) ⊎ (LooksAt P a place r p q × (r ≢ Free))

-- Both words were set to the halves of the value, or found set. The result is the number that the pair holds now.
pub record WritesPair (P : NamedProgram) (a : About) (pair : ℕ) (value result : ℤ) (p q : Pass) : Type 0 where
  pub high : Ref
  pub low : Ref
  pub between : Pass
  pub first : FillsWord P a pair (high_half value) high p between
  pub second : FillsWord P a (suc pair) (low_half value) low between q
  pub holds : result ≡ number_of high low

-- Both words were found set, and the result is the number that they hold.
pub record ReadsPair (P : NamedProgram) (a : About) (pair : ℕ) (result : ℤ) (p q : Pass) : Type 0 where
  pub high : Ref
  pub low : Ref
  pub between : Pass
  pub first : LooksAt P a pair high p between
  pub second : LooksAt P a (suc pair) low between q
  pub both : (high ≢ Free) × (low ≢ Free)
  pub holds : result ≡ number_of high low

-- The pass was given a frame of this weight, which lies in the words.
pub record TakesFrame (words base weight : ℕ) (p q : Pass) : Type 0 where
  pub sees : Sees (gives (record { base = base; weight = weight }) ∷ []) p q
  pub becomes : q ≡ record p {
    seen = q.seen;
    frames = p.frames ++ record { base = base; weight = weight } ∷ [];
    asked = p.asked ++ record { mark = base; weight = weight } ∷ [];
  }
  pub within : base + weight ≤ words
  pub first_over : over words p.asked ≡ []

-- The pass got no frame: it had asked in vain before, and makes no step, or what it asks for is above the words.
pub record RaisesInVain (words weight : ℕ) (p q : Pass) : Type 0 where
  pub mark : ℕ
  pub sees : Sees [] p q
  pub becomes : q ≡ record p { seen = q.seen; asked = p.asked ++ record { mark = mark; weight = weight } ∷ [] }
  pub above : words < mark + weight

abbrev pub GetsNone : (words weight : ℕ) → (p q : Pass) → Type 0
GetsNone words weight p q = ((over words p.asked ≢ []) × (q ≡ p))
    ⊎ ((over words p.asked ≡ []) × RaisesInVain words weight p q)

-- The pass failed.
pub record Fails (p q : Pass) : Type 0 where
  pub sees : Sees (fails ∷ []) p q
  pub becomes : q ≡ record p { seen = q.seen; fails = p.fails ++ tt ∷ [] }

-- A look found the fail word up or down: up where some pass has failed.
pub record FindsFailed (is_up : Bool) (p q : Pass) : Type 0 where
  pub sees : Sees [] p q
  pub becomes : q ≡ record p { seen = q.seen; missed = p.missed ++ cond is_up [] (fail_word ∷ []) }
  pub by_some : (is_up ≡ true) ↔ (fails_of q.seen ≢ [])
  pub own : p.fails ≢ [] → is_up ≡ true

-- The pass hung a goal, under its next waiter. (Before that it wrote the goal down, and saw the journal.)
pub record HangsGoal (waiters cell : ℕ) (goal : Goal) (p q : Pass) : Type 0 where
  pub waiter : ℕ
  pub next : waiter ≡ p.number * waiters + length p.hung
  pub left : length p.hung < waiters
  pub sees : Sees (hangs (record { waiter = waiter; cell = cell; goal = goal }) ∷ []) p q
  pub becomes : q ≡ record p {
    seen = q.seen;
    hung = p.hung ++ record { waiter = waiter; cell = cell; goal = goal } ∷ [];
  }

-- The pass found the place of a cell not empty, but so.
pub record MissesPlace (cell : ℕ) (place : Waiting) (p q : Pass) : Type 0 where
  pub sees : Sees [] p q
  pub becomes : q ≡ record p { seen = q.seen; found = p.found ++ record { cell = cell; place = place } ∷ [] }

-- The pass found a waiter in the place of a cell. Its goal had been hung on this cell.
pub record FindsWaiter (cell : ℕ) (p q : Pass) : Type 0 where
  pub waiter : ℕ
  pub misses : MissesPlace cell (occupied waiter) p q
  pub was_hung : WasHung q.seen waiter cell

-- The pass found the place of a cell closed, and then the cell set.
pub record FindsSet (P : NamedProgram) (a : About) (cell : ℕ) (r : Ref) (p q : Pass) : Type 0 where
  pub between : Pass
  pub misses : MissesPlace cell closed p between
  pub looks : LooksAt P a cell r between q
  pub is_set : r ≢ Free

-- The pass handed out the goal of the first waiter that it kept, which it had seen hung.
pub record HandsOut (P : NamedProgram) (words : ℕ) (goal : Goal) (p q : PassSeen) : Type 0 where
  pub hung : HungGoal
  pub kept : p.kept ≡ hung.waiter ∷ q.kept
  pub was_seen : Contains (hung_of p.pass.seen) hung
  pub is_goal : goal ≡ hung.goal
  pub in_range : IsGoalInRange P words goal
  pub sees : Sees [] p.pass q.pass
  pub becomes : q.pass ≡ record p.pass { seen = q.pass.seen }
