-- Marks of cells: what is read after one is set, and how many cells have none.
use Rattle.std.proofs.Common.{ℕ, zero, suc, ◌≡◌, ◌≢◌, ◌<◌, ◌≤◌, ◌+◌, ◌⊎◌, inl, inr, [], ◌∷◌, length, set, Some, None, refl, ap, sym, subst, ◌∙◌, arith}
use Rattle.std.specs.Prelude.{Option, All}
use Rattle.std.proofs.lemmas.Bool.{cases_eq}
use Rattle.std.proofs.lemmas.List.{get_or-set_same, get_or-set_other, length-set}
use Rattle.std.proofs.lemmas.List.Elements.{All-nil, All-cons, All-head, All-tail}
use Rattle.and_model.specs.declared.reference.Ref.{Ref}
use Rattle.and_model.specs.declared.reference.Ref.TheVariants.{Cell}
use Rattle.and_circles.specs.Marked.{Listed, mark_at, unmarked, AreUnmarked}
use Rattle.and_circles.specs.Explored.{done_from}
use Rattle.and_circles.specs.declared.marks.Mark.{Mark}
use Rattle.and_circles.specs.declared.marks.Mark.TheVariants.{Open, Done}

-- What the marks of a place became that was opened: no more is done, and no other is open.
pub record Opened (at : Ref) (old new : Listed) : Type 0 where
  pub long : length new ≡ length old
  pub done : (c : ℕ) → mark_at new c ≡ Some Done → mark_at old c ≡ Some Done
  pub opened : (c : ℕ) → mark_at new c ≡ Some Open → (at ≡ Cell c) ⊎ (mark_at old c ≡ Some Open)

-- What they became when it was left: it is not open, and no other is done.
pub record Left (at : Ref) (old new : Listed) : Type 0 where
  pub long : length new ≡ length old
  pub done : (c : ℕ) → mark_at new c ≡ Some Done → (at ≡ Cell c) ⊎ (mark_at old c ≡ Some Done)
  pub opened : (c : ℕ) → mark_at new c ≡ Some Open → (at ≢ Cell c) × (mark_at old c ≡ Some Open)

-- two marks
open_is_not_done : Some Open ≡ Some Done → ⊥
open_is_not_done e = cc

-- two cells
same_cell : (c d : ℕ) → Cell c ≡ Cell d → c ≡ d
same_cell c d e = cc

-- what is read after a mark was set is that mark, or is read elsewhere
read : (ms : Listed) (c d : ℕ) (m : Mark) → c < length ms
    → ((c ≡ d) × (mark_at (set ms c (Some m)) d ≡ Some m)) ⊎ ((d ≢ c) × (mark_at (set ms c (Some m)) d ≡ mark_at ms d))
read ms c d m below = elim (cases_eq d c) [
  | inl same ↦ inl (sym same, ap (λ k. mark_at (set ms c (Some m)) k) same ∙ get_or-set_same ms c (Some m) None below)
  | inr apart ↦ inr (apart, get_or-set_other ms c d (Some m) None apart)
]

-- a cell is opened
pub cell_opened : (ms : Listed) (c : ℕ) → c < length ms → Opened (Cell c) ms (set ms c (Some Open))
cell_opened ms c below = record {
  long = length-set ms c (Some Open);
  done = λ d e. elim (read ms c d Open below) [ inl same ↦ absurd (open_is_not_done (sym same.1 ∙ e)) | inr other ↦ sym other.1 ∙ e ];
  opened = λ d e. elim (read ms c d Open below) [ inl same ↦ inl (ap (λ k. Cell k) same.0) | inr other ↦ inr (sym other.1 ∙ e) ];
}

-- and left
pub cell_left : (ms : Listed) (c : ℕ) → c < length ms → Left (Cell c) ms (set ms c (Some Done))
cell_left ms c below = record {
  long = length-set ms c (Some Done);
  done = λ d e. elim (read ms c d Done below) [ inl same ↦ inl (ap (λ k. Cell k) same.0) | inr other ↦ inr (sym other.1 ∙ e) ];
  opened = λ d e. elim (read ms c d Done below) [
    | inl same ↦ absurd (open_is_not_done (sym e ∙ same.1))
    | inr other ↦ ((λ is. other.0 (sym (same_cell c d is))), sym other.1 ∙ e)
  ];
}

-- what is no cell has no mark
pub none_opened : (at : Ref) (ms : Listed) → Opened at ms ms
none_opened at ms = record { long = refl; done = λ c e. e; opened = λ c e. inr e }

pub none_left : (at : Ref) (ms : Listed) → ((c : ℕ) → at ≢ Cell c) → Left at ms ms
none_left at ms apart = record { long = refl; done = λ c e. inr e; opened = λ c e. (apart c, e) }

-- the first mark of a cell makes those without one fewer
pub one_fewer : (ms : Listed) (c : ℕ) (m : Mark) → c < length ms → mark_at ms c ≡ None → suc (unmarked (set ms c (Some m))) ≡ unmarked ms
one_fewer [] c m below none = absurd (omega arith)
one_fewer (None ∷ ms) zero m below none = refl
one_fewer (Some n ∷ ms) zero m below none = absurd (cc)
one_fewer (None ∷ ms) (suc c) m below none = ap suc (one_fewer ms c m (omega arith) none)
one_fewer (Some n ∷ ms) (suc c) m below none = one_fewer ms c m (omega arith) none

-- and another mark makes them no more
pub no_more : (ms : Listed) (c : ℕ) (m : Mark) → unmarked (set ms c (Some m)) ≤ unmarked ms
no_more [] c m = omega arith
no_more (None ∷ ms) zero m = omega arith
no_more (Some n ∷ ms) zero m = omega arith
no_more (None ∷ ms) (suc c) m = let less : unmarked (set ms c (Some m)) ≤ unmarked ms = no_more ms c m in omega arith
no_more (Some n ∷ ms) (suc c) m = no_more ms c m

module _ (E : Ref → Type 0) where
  -- what is done is among the places that end
  pub done_listed : (n : ℕ) (ms : Listed) (c : ℕ) → All E (done_from n ms) → mark_at ms c ≡ Some Done → E (Cell (n + c))
  done_listed n [] c all is = absurd (cc)
  done_listed n (None ∷ ms) zero all is = absurd (cc)
  done_listed n (Some Open ∷ ms) zero all is = absurd (open_is_not_done is)
  done_listed n (Some Done ∷ ms) zero all is = let e : n ≡ n + 0 =
      omega arith in subst (λ (k : ℕ). E (Cell k)) e (All-head E (Cell n) (done_from (suc n) ms) all)
  done_listed n (None ∷ ms) (suc c) all is = let e : suc n + c ≡ n + suc c = omega arith in subst (λ (k : ℕ). E (Cell k)) e (done_listed (suc n) ms c all is)
  done_listed n (Some Open ∷ ms) (suc c) all is = let e : suc n + c ≡ n + suc c =
      omega arith in subst (λ (k : ℕ). E (Cell k)) e (done_listed (suc n) ms c all is)
  done_listed n (Some Done ∷ ms) (suc c) all is =
      let e : suc n + c ≡ n + suc c =
      omega arith in subst (λ (k : ℕ). E (Cell k)) e (done_listed (suc n) ms c (All-tail E (Cell n) (done_from (suc n) ms) all) is)

  -- where what is done ends, all that is listed does
  pub all_done : (n : ℕ) (ms : Listed) → ((c : ℕ) → mark_at ms c ≡ Some Done → E (Cell (n + c))) → All E (done_from n ms)
  all_done n [] ended = All-nil E
  all_done n (m ∷ ms) ended =
      by_mark m (λ e. ended 0 e)
      (all_done (suc n) ms (λ c e. let same : n + suc c ≡ suc n + c = omega arith in subst (λ (k : ℕ). E (Cell k)) same (ended (suc c) e)))
    where
      by_mark : (m : Option Mark) → (m ≡ Some Done → E (Cell (n + 0))) → All E (done_from (suc n) ms) → All E (done_from n (m ∷ ms))
      by_mark None first rest = rest
      by_mark (Some Open) first rest = rest
      by_mark (Some Done) first rest = let e : n + 0 ≡ n =
          omega arith in All-cons E (Cell n) (done_from (suc n) ms) (subst (λ (k : ℕ). E (Cell k)) e (first refl)) rest

-- without marks nothing is done
pub none_done : (n : ℕ) (ms : Listed) → AreUnmarked ms → done_from n ms ≡ []
none_done n [] none = refl
none_done n (None ∷ ms) none = none_done (suc n) ms (λ c. none (suc c))
none_done n (Some m ∷ ms) none = let e : Some m ≡ None = none 0 in absurd (cc)
