-- The table of a store: its words, and what holds of them and of the seats at every moment.
use Rattle.std.specs.Prelude.{ℕ, ◌+◌, ◌*◌, ◌/◌, ◌%◌, ◌^◌, ◌≡◌, ◌≢◌, ◌<◌, Bool, cond, List, [], ◌∷◌, ◌++◌, map, length}
use Rattle.std.specs.Prelude.{slice_index, All}
use Rattle.and_model.specs.Store.{HungGoal, Waiting, empty, occupied, closed, hung_of}
use Rattle.and_model.specs.Words.{HasWord, word_of}
use Rattle.and_model.specs.declared.goal.Goal.{Goal}
use Rattle.and_cells.specs.Ranges.{NamedProgram}
use Rattle.atomic_table.specs.Table.{State}
use Rattle.and_model.specs.declared.reference.Ref.{Ref}
use Rattle.and_store_laws.specs.AtWork.{Opening, Member, Held, Rule, first_place}
use Rattle.and_store_laws.specs.Steps.{next_waiter}
use Rattle.and_store.specs.Sight.{About, IsModest, Sight, seat_of, opening_of}

abbrev pub place_word : Waiting → ℕ
place_word empty = 0
place_word closed = 1
place_word (occupied waiter) = 2 + waiter

-- the word of the place of a cell that has this word at the opening
abbrev pub first_place_word : Ref → ℕ
first_place_word r = place_word (first_place r)

abbrev pub flag : Bool → ℕ
flag b = cond b 1 0

-- the words of the table: those of the row, the places, two words for the goal of each waiter, the mark, the fail word
abbrev pub words_of : Held → (goals : List ℕ) → List ℕ
words_of h goals = map word_of h.row ++ (map place_word h.places ++ (goals ++ h.mark ∷ flag h.is_failed ∷ []))

-- the halves of this word are a goal's node and item
abbrev pub UpperIs : (word : ℕ) → Goal → Type 0
UpperIs word g = (g.node ≡ word / 2 ^ 32) × (g.item ≡ word % 2 ^ 32)

-- and of this one its clause and base
abbrev pub LowerIs : (word : ℕ) → Goal → Type 0
LowerIs word g = (g.clause.0 ≡ word / 2 ^ 32 % 2 ^ 16) × (g.base ≡ word % 2 ^ 32)

-- the goal stands in the words of the waiter
abbrev pub HasGoal : (goals : List ℕ) → (waiter : ℕ) → Goal → Type 0
HasGoal goals waiter g = UpperIs (slice_index goals (2 * waiter)) g × LowerIs (slice_index goals (2 * waiter + 1)) g

-- the first pass of a seat has a waiter left, and the words that it has noted stand in its next waiter's words
abbrev pub AreNoted : Opening → (goals : List ℕ) → List Member → List ℕ → Type 0
AreNoted o goals [] ns = Unit {0}
AreNoted o goals (m ∷ members) [] = Unit {0}
AreNoted o goals (m ∷ members) (n ∷ []) =
    (length m.pass.hung < o.waiters) × (slice_index goals (2 * next_waiter o m) ≡ n)
AreNoted o goals (m ∷ members) (n ∷ k ∷ ns) =
    (length m.pass.hung < o.waiters)
    × (slice_index goals (2 * next_waiter o m) ≡ n) × (slice_index goals (2 * next_waiter o m + 1) ≡ k)

-- the rule of the table
pub record Kept (P : NamedProgram) (a : About) (s : State (Unit {0}) Sight) : Type 0 where
  pub held : Held
  pub goals : List ℕ
  pub words : s.words ≡ words_of held goals
  pub goal_words : length goals ≡ 2 * (a.seats * a.waiters)
  pub modest : IsModest a
  pub named : All HasWord held.row
  pub rule : Rule (opening_of P a) (map seat_of s.views) held
  pub about : All (λ (v : Sight). v.seat.members ≢ [] → v.about ≡ a) s.views
  pub hung : All (λ (g : HungGoal). HasGoal goals g.waiter g.goal) (hung_of held.journal)
  pub noted : All (λ (v : Sight). AreNoted (opening_of P a) goals v.seat.members v.noted) s.views
