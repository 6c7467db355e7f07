-- Paths from bound cells: the first of the cells were seen to end, and the others were explored.
use Rattle.std.proofs.Common.{ℕ, zero, suc, ◌-◌, length, ◌≡◌, ◌<◌, ◌≤◌, ◌⊎◌, List, false, take, drop, sym, subst, ◌∙◌, inl, inr, arith}
use Rattle.std.specs.Prelude.{Contains, All}
use Rattle.std.proofs.lemmas.List.{take-append-drop, take_rest}
use Rattle.std.proofs.lemmas.List.Elements.{All-contains, Contains-append_cases}
use Rattle.and_model.specs.declared.reference.Ref.{Ref}
use Rattle.and_model.specs.declared.reference.Ref.TheVariants.{Free, Cell, Number}
use Rattle.and_cells.specs.Ranges.{NamedProgram}
use Rattle.and_cells.specs.Seen.{word_at}
use Rattle.and_cells.specs.Ends.{IsBelow, Ends}
use Rattle.and_unify.specs.Settling.{EndsFrom}

pub seen_or_explored : (Seen Ended : ℕ → Type 0) (bound : List ℕ) (seen : ℕ) → All Seen (take seen bound) → ((cell : ℕ) → Seen cell → Ended cell)
    → ((cell : ℕ) → Contains (take (length bound - seen) (drop seen bound)) cell → Ended cell) → (cell : ℕ) → Contains bound cell → Ended cell
seen_or_explored Seen Ended bound seen first ends others cell listed =
    elim (Contains-append_cases (take seen bound) (drop seen bound) cell
    (subst (λ (cells : List ℕ). Contains cells cell) (sym (take-append-drop seen bound)) listed)) [
      | inl before ↦ ends cell (All-contains Seen (take seen bound) cell first before)
      | inr behind ↦ others cell (subst (λ (cells : List ℕ). Contains cells cell) (sym (take_rest bound seen)) behind)
    ]

-- A path from a cell ends where its word is free, a number, or below the floor.
pub ends_here : (P : NamedProgram) (row : List Ref) (floor cell : ℕ) (word : Ref) → word ≡ word_at row cell
    → (word ≡ Free) ⊎ ((pair : ℕ) × (word ≡ Number pair)) ⊎ IsBelow floor word
    → Ends P row floor false (Cell cell)
ends_here P row floor cell word is (inl none) = Ends.free cell (sym is ∙ none)
ends_here P row floor cell word is (inr (inl holds)) =
    Ends.set cell word (sym is, λ e. let both : Number holds.0 ≡ Free = sym holds.1 ∙ e in absurd (cc))
    (subst (Ends P row floor false) (sym holds.1) (Ends.number holds.0))
ends_here P row floor cell word is (inr (inr below)) = Ends.set cell word (sym is, λ e. subst (IsBelow floor) e below) (Ends.low word below)

below_or : (a b : ℕ) → (a < b) ⊎ (b ≤ a)
below_or a zero = inr (omega arith)
below_or zero (suc b) = inl (omega arith)
below_or (suc a) (suc b) = elim (below_or a b) [ inl less ↦ inl (omega arith) | inr more ↦ inr (omega arith) ]

-- What ends from a cell ends at the floor, and of a cell below the floor it ends there at once.
pub ends_above : (P : NamedProgram) (row : List Ref) (floor cell : ℕ) → EndsFrom P row floor cell → Ends P row floor false (Cell cell)
ends_above P row floor cell ends = elim (below_or cell floor) [ inl below ↦ Ends.low (Cell cell) below | inr above ↦ ends.1 above ]
