-- Goals that hang on a cell of a store, tried on direct calls.
use Rattle.std.proofs.Common.{ℕ, ◌≡◌, ◌+◌, ◌≤◌, true, [], ◌∷◌, refl, sym, ap, ◌∙◌, Some, None, arith}
use Rattle.std.specs.Prelude.{Contains}
use Rattle.std.proofs.lemmas.List.Elements.{All-nil, All-contains}
use Rattle.and_model.specs.declared.reference.Ref.TheVariants.{Cell}
use Rattle.and_model.specs.Store.{Setting, JournalEntry, sets, hangs, HungGoal, Known, Asked, Took, Fits, HasClosed, Row}
use Rattle.and_model.proofs.Tested.{of_one, of_two, none_in, distinct}
use Rattle.and_examples.proofs.StoreExamples.{no_numbers}
use Rattle.and_examples.specs.HangingExamples.{first, hung, bound, journal, hanger, binder, taken, row}

only : {X : Type 0} (x y : X) → Contains (x ∷ []) y → x ≡ y
only x y c = All-contains (λ z. x ≡ z) (x ∷ []) y (of_one (λ z. x ≡ z) x refl) c

not_a_cell : (s : Setting) → bound ≡ s → (cell : ℕ) → s.value ≡ Cell cell → ⊥
not_a_cell s same cell value = let other : bound.value ≡ Cell cell = ap (λ (s : Setting). s.value) same ∙ value in cc

hanger_fits : Fits first 1 journal hanger
hanger_fits = record {
  seen = (record { pass = 1; made = sets bound } ∷ [], refl);
  settings = refl;
  frames = refl;
  fails = refl;
  hung = refl;
  known = All-nil (λ (k : Known). Contains [] k.setting);
  own = refl;
  known_once = distinct [] refl;
  asked = All-nil (λ (a : Asked). a.mark + a.weight ≤ 1);
}

binder_fits : Fits first 1 journal (binder (taken ∷ []))
binder_fits = record {
  seen = ([], refl);
  settings = refl;
  frames = refl;
  fails = refl;
  hung = refl;
  known = of_one (λ (k : Known). Contains (bound ∷ []) k.setting) (record { setting = bound; is_own = true }) (0, omega arith, refl);
  own = refl;
  known_once = distinct (0 ∷ []) refl;
  asked = All-nil (λ (a : Asked). a.mark + a.weight ≤ 1);
}

pub row_holds : Row first (hanger ∷ binder (taken ∷ []) ∷ []) journal row
row_holds = record {
  set_words = λ s. (λ c. c, λ c. c);
  set_once = distinct (0 ∷ []) refl;
  passes_fit = of_two (Fits first 1 journal) hanger (binder (taken ∷ [])) hanger_fits binder_fits;
  closed = of_two HasClosed hanger (binder (taken ∷ [])) refl refl;
  by_a_pass = of_two (λ (e : JournalEntry). Contains (0 ∷ 1 ∷ []) e.pass) (record { pass = 0; made = hangs hung }) (record { pass = 1; made = sets bound }) (
    0,
    omega arith,
    refl,
  ) (1, omega arith, refl);
  numbered = distinct (0 ∷ 1 ∷ []) refl;
  falls = λ s c cell value. absurd (not_a_cell s (only bound s c) cell value);
  written_first = λ s c pair value. absurd (none_in s c);
  written = λ before after e is s set pair value. absurd (no_numbers journal refl before after e is s set pair value);
  frames = tt;
  hung_once = distinct (0 ∷ []) refl;
  taken_once = distinct (0 ∷ []) refl;
  taken_was_hung = λ t c waiter e.
      let same = only taken t c in
      let number : 0 ≡ waiter = (let w : Some 0 ≡ Some waiter = ap (λ (t : Took). t.waiter) same ∙ e in cc) in
      (hung, (0, omega arith, refl), number, ap (λ (t : Took). t.cell) same);
  hung_is_taken = λ g t c d e. sym (ap (λ (t : Took). t.waiter) (only taken t d)) ∙ ap (λ (g : HungGoal). Some g.waiter) (only hung g c);
}

-- The waiter that was there is not dropped,
pub dropped : Row first (hanger ∷ binder (record { cell = 0; waiter = None } ∷ []) ∷ []) journal row → ⊥
dropped holds = let e = holds.hung_is_taken hung (record { cell = 0; waiter = None }) (0, omega arith, refl) (0, omega arith, refl) refl in cc

-- and the place does not stay open.
pub left_open : Row first (hanger ∷ binder [] ∷ []) journal row → ⊥
left_open holds = let e = holds.closed 1 hanger (omega arith) in cc
