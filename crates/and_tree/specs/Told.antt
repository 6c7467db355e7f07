-- What each step on a tree's table tells the pass that makes it.
use Rattle.std.specs.Prelude.{ℕ, ◌+◌, ◌-◌, ◌*◌, ◌^◌, ◌%◌, ◌≡◌, ◌≢◌, ◌<◌, ◌≤◌, List, [], ◌∷◌, length, Option, None}
use Rattle.std.specs.Prelude.{Some, Contains, nat_eq}
use Rattle.and_model.specs.Prefixes.{IsPrefix}
use Rattle.and_histories.specs.PlainTree.{Key, Cell, free, seen_in, last_serial, Owns, Event, fork, publish, claim}
use Rattle.and_histories.specs.PlainTree.{clear, end, look, left}
use Rattle.and_histories.specs.PlainTree.{Reply, forked, done, not_free, spent, taken, moved, cleared, last, seen}
use Rattle.and_histories.specs.PlainTree.{number}
use Rattle.and_histories.specs.Histories.{team_of}
use Rattle.and_tree.specs.Few.{IsCellOf, most_in_hand}
use Rattle.and_tree.specs.Sight.{About, at_rest, opening_cell, clearing_cell, Member, Sight, mine_of, IsAlone}
use Rattle.and_tree.specs.Sight.{with_mine}
use Rattle.and_tree.specs.AtWork.{Held, AtWork, Acts, Rests}
use Rattle.and_tree.specs.Kept.{cell_word, word_with}

-- at some moment the words are these, and the pass is among those of the tree
pub record Amid (a : About) (m : Member) (h : Held) : Type 0 where
  pub members : List Member
  pub at_work : AtWork a members h
  pub there : Contains members m

-- The pass made a call, which was answered so.
pub record Called (event : Event) (reply : Reply) (v w : Sight) (h : Held) : Type 0 where
  pub next : Held
  pub before : Amid v.about (mine_of v) h
  pub after : Amid v.about (mine_of w) next
  pub acts : Acts h next (mine_of v) (mine_of w) (record { event = event; reply = reply })
  pub view : w ≡ with_mine v (mine_of w)

-- how what was found in the word answers the call
abbrev pub Tells : (teams : ℕ) → Event → (found : ℕ) → Reply → Type 0
Tells teams (fork team key longer clauses) found reply = reply ≡ forked
Tells teams (publish team cell key) found reply = reply ≡ done
Tells teams (claim team cell serial) found reply =
    (c : Cell) × IsCellOf teams c × (found ≡ cell_word c) × (reply ≡ moved (seen_in c))
Tells teams (clear team cell) found reply = reply ≡ cleared
Tells teams (end team key how) found reply = reply ≡ last (nat_eq found 1)
Tells teams (look team cell) found reply =
    (c : Cell) × IsCellOf teams c × (found ≡ cell_word c) × (reply ≡ seen (seen_in c))
Tells teams (left team) found reply = reply ≡ number found

-- A step that is a call by itself; the pass has no slot then.
pub record CallTold (event : Event) (v : Sight) (found : ℕ) (w : Sight) : Type 0 where
  pub held : Held
  pub reply : Reply
  pub tells : Tells v.about.teams event found reply
  pub called : Called event reply v w held
  pub rests : (mine_of w).work ≡ at_rest

-- a load of a cell, to publish there: the cell is used up, or not free, or the pass has its slot now
pub record SpentTold (cell : ℕ) (key : Key) (v w : Sight) : Type 0 where
  pub held : Held
  pub called : Called (publish (mine_of v).team cell key) spent v w held
  pub rests : (mine_of w).work ≡ at_rest

pub record NotFreeTold (cell : ℕ) (key : Key) (c : Cell) (v w : Sight) : Type 0 where
  pub held : Held
  pub called : Called (publish (mine_of v).team cell key) (not_free (seen_in c)) v w held
  pub rests : (mine_of w).work ≡ at_rest

pub record FreeTold (cell : ℕ) (c : Cell) (v w : Sight) : Type 0 where
  pub held : Held
  pub before : Amid v.about (mine_of v) held
  pub after : Amid v.about (mine_of w) held
  pub rests : Rests held held (mine_of v) (mine_of w)
  pub view : w ≡ with_mine v (mine_of w)
  pub work : (mine_of w).work ≡ opening_cell cell c.serial

pub record PublishTold {B : Type 0} (cell : ℕ) (key : Key) (v : Sight) (found : ℕ) (w : Sight
    × List (ℕ × Option B)) : Type 0 where
  pub content : Cell
  pub is_cell : IsCellOf v.about.teams content
  pub found_is : found ≡ cell_word content
  pub if_spent : content.serial ≡ last_serial → SpentTold cell key v w.0 × (w.1 ≡ [])
  pub if_not_free : content.serial ≢ last_serial → content.content ≢ free
      → NotFreeTold cell key content v w.0 × (w.1 ≡ [])
  pub if_free : content.serial ≢ last_serial → content.content ≡ free
      → FreeTold cell content v w.0 × (w.1 ≡ (cell, None) ∷ [])

-- a claim: the key is in hand now, and the pass has the cell's slot with the branch; or the cell was not open with
-- this serial
pub record TakenTold (cell serial : ℕ) (key : Key) (v w : Sight) : Type 0 where
  pub held : Held
  pub called : Called (claim (mine_of v).team cell serial) (taken key) v w held
  pub work : (mine_of w).work ≡ clearing_cell cell serial

module _ {B : Type 0} (key_of : B → Key) (Stands : ℕ → B → Type 0) where
  pub record TakesBranch (cell serial : ℕ) (v : Sight) (w : Sight × List (ℕ × Option B)) : Type 0 where
    pub branch : B
    pub stands : Stands v.about.limit branch
    pub told : TakenTold cell serial (key_of branch) v w.0
    pub slot : w.1 ≡ (cell, Some branch) ∷ []

  pub record ClaimTold (cell serial : ℕ) (v : Sight) (found : ℕ) (w : Sight × List (ℕ × Option B)) : Type 0 where
    pub if_open : found ≡ word_with serial 1 → TakesBranch cell serial v w
    pub if_moved : found ≢ word_with serial 1 → CallTold (claim (mine_of v).team cell serial) v found w.0 × (w.1 ≡ [])

  -- The pass has the slot of the cell, with a branch that stands for the key.
  pub record HasBranch (limit cell : ℕ) (key : Key) (slots : List (ℕ × Option B)) : Type 0 where
    pub branch : B
    pub slots_are : slots ≡ (cell, Some branch) ∷ []
    pub stands : Stands limit branch
    pub key_is : key_of branch ≡ key

-- a load by which the pass sees all that was done, what it was told of too
pub record HearTold (v w : Sight) : Type 0 where
  pub held : Held
  pub before : Amid v.about (mine_of v) held
  pub after : Amid v.about (mine_of w) held
  pub told : IsPrefix v.told held.history
  pub becomes : w ≡ record v { members = record (mine_of v) { seen = held.history } ∷ []; told = [] }

-- ---- what a step asks

-- The call may be made with this hand.
abbrev pub MayCall : (teams : ℕ) → (hand : List Key) → Event → Type 0
MayCall teams hand (fork team key longer clauses) =
    Contains hand key × IsPrefix key longer × (length hand + length clauses ≤ most_in_hand)
MayCall teams hand (publish team cell key) = Contains hand key × Owns team cell
MayCall teams hand (claim team cell serial) = cell < 8 * teams
MayCall teams hand (clear team cell) = cell < 8 * teams
MayCall teams hand (end team key how) = Contains hand key
MayCall teams hand (look team cell) = cell < 8 * teams
MayCall teams hand (left team) = Unit {0}

pub record CanCall (a : About) (v : Sight) (event : Event) : Type 0 where
  pub alone : IsAlone v
  pub about : v.about ≡ a
  pub team_below : (mine_of v).team < a.teams
  pub of_team : team_of event ≡ (mine_of v).team
  pub may : MayCall a.teams (mine_of v).hand event

-- what a fork by so many clauses adds to the live word: one less
abbrev pub added_by : (clauses : ℕ) → ℕ
added_by clauses = (clauses + (2 ^ 64 - 1)) % 2 ^ 64
