-- What holds between walks: what was walked ends, and what is seen to end by that may be marked.
use Rattle.std.proofs.Common.{ℕ, ◌≡◌, ◌<◌, ◌≤◌, ◌+◌, ◌⊎◌, inl, inr, List, length, set, Some, sym, subst, ◌∙◌, arith}
use Rattle.std.specs.Prelude.{Contains, All}
use Rattle.std.proofs.lemmas.List.Elements.{All-append, All-contains}
use Rattle.and_model.specs.declared.reference.Ref.{Ref}
use Rattle.and_model.specs.declared.reference.Ref.TheVariants.{Cell, Number}
use Rattle.and_cells.specs.Ranges.{NamedProgram}
use Rattle.and_cells.specs.Rows.{IsSound}
use Rattle.and_cells.specs.Ends.{Ends}
use Rattle.and_circles.specs.Marked.{Listed, Adds, mark_at}
use Rattle.and_circles.specs.Explored.{AreFinished, finished, done_from}
use Rattle.and_circles.specs.Walks.{IsAtRest, IsRested}
use Rattle.and_circles.specs.declared.marks.Mark.TheVariants.{Open, Done}
use Rattle.and_circles.specs.declared.walk.Walk.{Walk}
use Rattle.and_circles.proofs.Keeping.{added, first_part, second_part}
use Rattle.and_circles.proofs.Marking.{cell_left, done_listed, all_done}

module _ (P : NamedProgram) (row : List Ref) (w : Walk) where
  abbrev E : Ref → Type 0
  E = Ends P row w.floor w.halves

  abbrev IsWalked : Type 0
  IsWalked = AreFinished P row (finished w.marks w.structures w.floor w.halves)

  -- what is done ends
  pub done_ends : IsWalked → (c : ℕ) → mark_at w.marks c ≡ Some Done → E (Cell c)
  done_ends all c is =
      let e : 0 + c ≡ c = omega arith in
      subst (λ (k : ℕ). E (Cell k)) e (done_listed E 0 w.marks c (first_part E (done_from 0 w.marks) w.structures all) is)

  -- and so do the structures that are kept
  kept_end : IsWalked → All E w.structures
  kept_end all = second_part E (done_from 0 w.marks) w.structures all

  pub structure_ends : IsWalked → (at : Ref) → Contains w.structures at → E at
  structure_ends all at c = All-contains E w.structures at (kept_end all) c

  -- other marks, by which no more is done than ends and no more is open, and other structures that end
  rests_so : (marks : Listed) (structures : List Ref) → IsSound P row → IsAtRest w → length row ≤ length marks
      → ((c : ℕ) → mark_at marks c ≡ Some Done → E (Cell c))
      → ((c : ℕ) → mark_at marks c ≡ Some Open → mark_at w.marks c ≡ Some Open) → All E structures
      → IsRested P row (record w { marks = marks; structures = structures })
  rests_so marks structures sound rest room done opened kept = record {
    sound = sound;
    room = room;
    finished = All-append E (done_from 0 marks) structures (all_done E 0 marks from_nought) kept;
    rest = ((λ c is. rest.0 c (opened c is)), rest.1);
  }
    where
      from_nought : (c : ℕ) → mark_at marks c ≡ Some Done → E (Cell (0 + c))
      from_nought c is = let e : c ≡ 0 + c = omega arith in subst (λ (k : ℕ). E (Cell k)) e (done c is)

  -- a cell that ends is marked
  pub rests_marked : (c : ℕ) → IsRested P row w → c < length row → E (Cell c) → IsRested P row (record w { marks = set w.marks c (Some Done) })
  rests_marked c rested there ends =
      let left = cell_left w.marks c (omega (arith, there, rested.room)) in
      let room : length row ≤ length (set w.marks c (Some Done)) = subst (λ (n : ℕ). length row ≤ n) (sym left.long) rested.room in
      rests_so (set w.marks c (Some Done)) w.structures rested.sound rested.rest room (λ d is. was_done d (left.done d is)) (λ d is. (left.opened d is).1)
      (kept_end rested.finished)
    where
      was_done : (d : ℕ) → (Cell c ≡ Cell d) ⊎ (mark_at w.marks d ≡ Some Done) → E (Cell d)
      was_done d (inl same) = subst E same ends
      was_done d (inr old) = done_ends rested.finished d old

  -- room is made
  pub rests_in_room : (marks : Listed) (structures : List Ref) → IsSound P row → IsWalked → IsAtRest w → length row ≤ length marks
      → ((c : ℕ) → mark_at marks c ≡ mark_at w.marks c) → Adds (Number 0) w.structures structures
      → IsRested P row (record w { marks = marks; structures = structures })
  rests_in_room marks structures sound all rest room same more =
      rests_so marks structures sound rest room (λ c is. done_ends all c (sym (same c) ∙ is)) (λ c is. sym (same c) ∙ is)
      (added E (Number 0) w.structures structures (Ends.number 0) more (kept_end all))
