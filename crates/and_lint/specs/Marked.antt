-- Which clauses are marked, and which of them are still to be gone through.
use Rattle.std.specs.Prelude.{ℕ, suc, ◌+◌, ◌<◌, ◌≡◌, ◌⊎◌, Bool, true, false, nat_eq, List, [], ◌∷◌, length}
use Rattle.std.specs.Prelude.{get_or}
use Rattle.std.specs.List.{list_any}
use Rattle.and_model.specs.Terms.{Term}
use Rattle.and_model.specs.Programs.{Program, Item, call, equal, arithmetic, fail, clause_at, is_of}
use Rattle.and_model.specs.declared.numbers.ClauseNo.{ClauseNo}
use Rattle.and_lint.specs.Reached.{IsReached}

-- the clause is marked
abbrev pub marked : List Bool → ℕ → Bool
marked marks c = get_or marks c false

-- how many clauses are not marked
abbrev pub unmarked : List Bool → ℕ
unmarked [] = 0
unmarked (true ∷ marks) = unmarked marks
unmarked (false ∷ marks) = suc (unmarked marks)

-- the clause is one of these
abbrev pub is_among : List ClauseNo → ℕ → Bool
is_among ms c = list_any (λ (m : ClauseNo). nat_eq m.0 c) ms

-- the first of these is marked
abbrev pub is_first_marked : List Bool → List ClauseNo → Bool
is_first_marked marks [] = false
is_first_marked marks (m ∷ ms) = marked marks m.0

-- the numbers are below
abbrev pub AreBelow : ℕ → List ClauseNo → Type 0
AreBelow n [] = Unit {0}
AreBelow n (m ∷ ms) = (m.0 < n) × AreBelow n ms

-- an item calls the predicate of the clause
abbrev pub calls : Program → Item → ℕ → Bool
calls P (call goal) c = is_of P goal c
calls P (equal a b) c = false
calls P (arithmetic a) c = false
calls P fail c = false

-- some item of these does
abbrev pub some_calls : Program → List Item → ℕ → Bool
some_calls P items c = list_any (λ (item : Item). calls P item c) items

-- More clauses may be marked, and those that were not are on the list of those to be gone through; no other was put
-- there.
pub record Grows (old new : List Bool) (before after : List ClauseNo) : Type 0 where
  pub long : length new ≡ length old
  pub kept : (c : ℕ) → marked old c ≡ true → marked new c ≡ true
  pub fresh : (c : ℕ) → is_among after c ≡ true → (is_among before c ≡ true) ⊎ (marked new c ≡ true)
  pub listed : (c : ℕ) → marked new c ≡ true → (marked old c ≡ true) ⊎ (is_among after c ≡ true)
  pub still : (c : ℕ) → is_among before c ≡ true → is_among after c ≡ true
  pub below : AreBelow (length old) before → AreBelow (length new) after
  pub measure : unmarked new + length after ≡ unmarked old + length before

-- of the clauses that a goal can be taken by all are marked, or none is
abbrev pub IsEven : Program → List Bool → Type 0
IsEven P marks = (goal : Term) (c d : ℕ) → is_of P goal c ≡ true → is_of P goal d ≡ true
    → marked marks c ≡ marked marks d

-- The query is marked, each marked clause is reached, and what it calls is marked too, if it is not still to be gone
-- through.
pub record Marks (P : Program) (marks : List Bool) (work : List ClauseNo) : Type 0 where
  pub long : length marks ≡ suc (length P.clauses)
  pub below : AreBelow (length marks) work
  pub even : IsEven P marks
  pub query : marked marks 0 ≡ true
  pub ahead : (c : ℕ) → is_among work c ≡ true → marked marks c ≡ true
  pub sound : (c : ℕ) → marked marks c ≡ true → IsReached P c
  pub closed : (c : ℕ) → marked marks c ≡ true → (is_among work c ≡ true)
      ⊎ ((d : ℕ) → some_calls P (clause_at P c).body d ≡ true → marked marks d ≡ true)
