-- What each step on a store's table tells the pass that makes it.
use Rattle.std.specs.Prelude.{ℕ, ◌+◌, ◌*◌, ◌^◌, ◌≡◌, ◌≢◌, ◌<◌, ◌≤◌, ◌⊎◌, List, [], ◌∷◌, ◌++◌, flat_map, length}
use Rattle.std.specs.Prelude.{slice_set, true, option_to_list, Contains}
use Rattle.and_model.specs.Store.{gives, fails, hangs, HungGoal, JournalEntry, Took, closed, occupied, hung_of}
use Rattle.and_model.specs.Words.{HasWord, word_of}
use Rattle.and_model.specs.declared.goal.Goal.{Goal}
use Rattle.and_model.specs.declared.reference.Ref.{Ref}
use Rattle.and_model.specs.declared.reference.Ref.TheVariants.{Free}
use Rattle.and_cells.specs.Ranges.{NamedProgram}
use Rattle.and_store_laws.specs.AtWork.{Opening, Member, Held, AtWork, word_at, place_at}
use Rattle.and_store_laws.specs.Steps.{blank, looked, own_entry, set_as, entry, frame_at, given, refused, failed_as}
use Rattle.and_store_laws.specs.Steps.{asks_failed, goal_of, hung_as, not_hung, taken}
use Rattle.and_store.specs.Kept.{flag, place_word, UpperIs, LowerIs}
use Rattle.and_store.specs.Sight.{Sight, opening_of}

-- the pass that steps with the seat
abbrev pub first_of : List Member → Member
first_of [] = blank 0
first_of (m ∷ members) = m

abbrev pub mine_of : Sight → Member
mine_of v = first_of v.seat.members

-- no other pass was put to it
abbrev pub IsAlone : Sight → Type 0
IsAlone v = v.seat.members ≡ mine_of v ∷ []

abbrev pub noting : Sight → Member → List ℕ → Sight
noting v n ns = record v { seat = record v.seat { members = n ∷ [] }; noted = ns }

-- the pass became n
abbrev pub stepped_to : Sight → Member → Sight
stepped_to v n = noting v n []

-- at some moment the words are these, and the pass is among those of the store
pub record Amid (o : Opening) (m : Member) (h : Held) : Type 0 where
  pub members : List Member
  pub at_work : AtWork o members h
  pub there : Contains members m

-- The pass became n by one step, by which the words h became k.
pub record Went (P : NamedProgram) (v w : Sight) (h k : Held) (n : Member) : Type 0 where
  pub before : Amid (opening_of P v.about) (mine_of v) h
  pub after : Amid (opening_of P v.about) n k
  pub view : w ≡ stepped_to v n

pub record LookTold (P : NamedProgram) (cell : ℕ) (v : Sight) (found : ℕ) (w : Sight) : Type 0 where
  pub held : Held
  pub went : Went P v w held held (looked cell (word_at held.row cell) held.journal (mine_of v))
  pub found_is : found ≡ word_of (word_at held.row cell)
  pub named : HasWord (word_at held.row cell)

pub record SetTold (P : NamedProgram) (cell : ℕ) (to : Ref) (v w : Sight) : Type 0 where
  pub held : Held
  pub went : Went P v w held
      (record held { row = slice_set held.row cell to; journal = held.journal ++ own_entry cell to (mine_of v) ∷ [] })
      (set_as cell to held.journal (mine_of v))
  pub free : word_at held.row cell ≡ Free

-- an exchange from a free word
abbrev pub BindTold : NamedProgram → (cell : ℕ) → Ref → Sight → (found : ℕ) → Sight → Type 0
BindTold P cell to v found w = (found ≡ 0 → SetTold P cell to v w) × (found ≢ 0 → LookTold P cell v found w)

abbrev pub waiters_of : List Took → List ℕ
waiters_of took = flat_map (λ (t : Took). option_to_list t.waiter) took

pub record TakeTold (P : NamedProgram) (cell : ℕ) (v : Sight) (found : ℕ) (w : Sight) : Type 0 where
  pub held : Held
  pub went : Went P v w held
      (record held { places = slice_set held.places cell closed })
      (taken cell (place_at held.places cell) held.journal (mine_of v))
  pub found_is : found ≡ place_word (place_at held.places cell)
  pub below : (waiter : ℕ) → place_at held.places cell ≡ occupied waiter → waiter < v.about.seats * v.about.waiters
  pub few : length (waiters_of (mine_of w).pass.took) ≤ v.about.seats * v.about.waiters

pub record FrameTold (P : NamedProgram) (weight : ℕ) (v : Sight) (found : ℕ) (w : Sight) : Type 0 where
  pub held : Held
  pub found_is : found ≡ held.mark
  pub small : held.mark + weight < 2 ^ 64
  pub went :
      ((held.mark + weight ≤ v.about.words)
      × Went P v w held
      (record held {
        mark = held.mark + weight;
        journal = held.journal ++ entry (mine_of v).pass.number (gives (frame_at weight held)) ∷ [];
      })
      (given weight held (mine_of v)))
      ⊎ ((v.about.words < held.mark + weight)
      × Went P v w held (record held { mark = held.mark + weight }) (refused weight held (mine_of v)))

pub record FailTold (P : NamedProgram) (v w : Sight) : Type 0 where
  pub held : Held
  pub went : Went P v w held
      (record held { is_failed = true; journal = held.journal ++ entry (mine_of v).pass.number fails ∷ [] })
      (failed_as held.journal (mine_of v))

pub record FailedTold (P : NamedProgram) (v : Sight) (found : ℕ) (w : Sight) : Type 0 where
  pub held : Held
  pub went : Went P v w held held (asks_failed held.is_failed held.journal (mine_of v))
  pub found_is : found ≡ flag held.is_failed

-- the pass has only seen the journal
abbrev pub sees : List JournalEntry → Member → Member
sees journal m = record m { pass = record m.pass { seen = journal } }

pub record NoteTold (P : NamedProgram) (word : ℕ) (v w : Sight) : Type 0 where
  pub held : Held
  pub before : Amid (opening_of P v.about) (mine_of v) held
  pub after : Amid (opening_of P v.about) (sees held.journal (mine_of v)) held
  pub view : w ≡ noting v (sees held.journal (mine_of v)) (v.noted ++ word ∷ [])

pub record HangTold (P : NamedProgram) (cell : ℕ) (goal : Goal) (v : Sight) (found : ℕ) (w : Sight) : Type 0 where
  pub held : Held
  pub found_is : found ≡ place_word (place_at held.places cell)
  pub hung : found ≡ 0 → let g = goal_of (opening_of P v.about) cell goal (mine_of v) in
      Went P v w held (record held {
        places = slice_set held.places cell (occupied g.waiter);
        journal = held.journal ++ entry (mine_of v).pass.number (hangs g) ∷ [];
      }) (hung_as g held.journal (mine_of v))
  pub not_hung : found ≢ 0 → Went P v w held held (not_hung cell (place_at held.places cell) held.journal (mine_of v))

-- a look at the words in which goals stand
pub record GoalTold (P : NamedProgram) (index : ℕ) (v : Sight) (found : ℕ) (w : Sight) : Type 0 where
  pub held : Held
  pub went : Went P v w held held (sees held.journal (mine_of v))
  pub found_is : (g : HungGoal) → Contains (hung_of held.journal) g
      → (index ≡ 2 * g.waiter → UpperIs found g.goal) × (index ≡ 2 * g.waiter + 1 → LowerIs found g.goal)
