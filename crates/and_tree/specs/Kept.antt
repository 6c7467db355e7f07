-- The table of a shared tree: its words and slots, and what holds of them and of the seats at every moment.
use Rattle.std.specs.Prelude.{ℕ, ◌+◌, ◌*◌, ◌^◌, ◌≡◌, ◌≢◌, ◌⊎◌, List, [], ◌∷◌, map, length, Option, None, Some, All}
use Rattle.std.specs.Prelude.{Contains}
use mathlib.Core.Option.{some}
use lib.ListN.{get_elem?}
use Rattle.atomic_table.specs.Table.{State}
use Rattle.and_model.specs.Prefixes.{IsPrefix}
use Rattle.and_histories.specs.PlainTree.{Key, Cell, Content, free, opened, taking, left_of}
use Rattle.and_tree.specs.Sight.{About, Member, Sight, opening_cell}
use Rattle.and_tree.specs.AtWork.{Held, AtWork, all_members}

-- A cell's word has its serial in the upper 48 bits and below it what it holds: 0 where it is free, 1 where it is open,
-- and 2 and more where a team is taking the branch out.
abbrev pub content_word : Content → ℕ
content_word free = 0
content_word (opened key) = 1
content_word (taking team) = 2 + team

abbrev pub word_with : (serial below : ℕ) → ℕ
word_with serial below = serial * 2 ^ 16 + below

abbrev pub cell_word : Cell → ℕ
cell_word c = word_with c.serial (content_word c.content)

-- the words of the table: how many keys are left, and one for each cell
abbrev pub words_of : Held → List ℕ
words_of h = left_of h.now ∷ map cell_word h.now.cells

-- Some pass has the slot of the cell, in which it is to put a branch.
abbrev pub IsOpening : List Member → (cell : ℕ) → Type 0
IsOpening members cell = (m : Member) × (serial : ℕ) × Contains members m × (m.work ≡ opening_cell cell serial)

module _ {B : Type 0} (key_of : B → Key) (Stands : ℕ → B → Type 0) where
  -- The slot of a cell is empty where the cell is free, unless its owner has the slot. It has a branch that stands
  -- for the key where the cell is open. The taker has it else.
  abbrev pub IsSlotOf : (limit : ℕ) → List Member → State (Option B) Sight → (cell : ℕ) → Content → Type 0
  IsSlotOf limit members s cell free = (get_elem? s.homes cell ≡ some (some None)) ⊎ IsOpening members cell
  IsSlotOf limit members s cell (opened key) =
      (branch : B) × (get_elem? s.homes cell ≡ some (some (Some branch))) × Stands limit branch × (key_of branch ≡ key)
  IsSlotOf limit members s cell (taking team) = Unit {0}

  -- the rule of the table
  pub record Kept (a : About) (s : State (Option B) Sight) : Type 0 where
    pub held : Held
    pub words : s.words ≡ words_of held
    pub slots : length s.homes ≡ 8 * a.teams
    pub at_work : AtWork a (all_members s.views) held
    pub slot : (cell : ℕ) (c : Cell) → get_elem? held.now.cells cell ≡ some c
        → IsSlotOf a.limit (all_members s.views) s cell c.content
    pub about : All (λ (v : Sight). v.members ≢ [] → v.about ≡ a) s.views
    pub told : All (λ (v : Sight). IsPrefix v.told held.history) s.views
