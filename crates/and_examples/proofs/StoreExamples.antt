-- The row of a store, tried on direct calls.
use Rattle.std.proofs.Common.{ℕ, ◌≡◌, ◌<◌, ◌≤◌, ◌+◌, Bool, true, false, not, ◌∙◌, true≢false, List, [], ◌∷◌, ◌++◌, refl, sym, ap, None, arith}
use Rattle.std.specs.Prelude.{All, Contains, nat_eq}
use Rattle.std.specs.List.{list_all}
use Rattle.std.proofs.lemmas.Bool.Decides.{Decides-eqb}
use Rattle.std.proofs.lemmas.List.Elements.{All-contains}
use Rattle.and_model.specs.declared.reference.Ref.{Ref}
use Rattle.and_model.specs.declared.reference.Ref.TheVariants.{Free, Cell, Node, Number, Half}
use Rattle.and_model.specs.Store.{Setting, JournalEntry, Made, sets, gives, fails, hangs, Known, Asked, Took, Pass, Fits, HasClosed, Row}
use Rattle.and_model.proofs.Tested.{tested, of_one, of_two, of_four, none_in, in_middle, within, distinct}
use Rattle.and_examples.specs.StoreExamples.{setting, entry, own, learnt, nobody_waits, first, journal, winner, learner, row, made}

-- the settings, in the order of their places
abbrev words : List Setting
words = setting 1 (Cell 0) ∷ setting 2 (Cell 1) ∷ setting 4 (Half 0) ∷ setting 5 (Half 5) ∷ []

there : All (Contains made) words
there = of_four (Contains made) (setting 1 (Cell 0)) (setting 2 (Cell 1)) (setting 4 (Half 0)) (setting 5 (Half 5)) (1, omega arith, refl) (
  0,
  omega arith,
  refl,
) (2, omega arith, refl) (3, omega arith, refl)

back : All (Contains words) made
back = of_four (Contains words) (setting 2 (Cell 1)) (setting 1 (Cell 0)) (setting 4 (Half 0)) (setting 5 (Half 5)) (1, omega arith, refl) (
  0,
  omega arith,
  refl,
) (2, omega arith, refl) (3, omega arith, refl)

-- an entry that sets a cell to a number
abbrev pub sets_number : Made → Bool
sets_number (sets s) = elim s.value [ Free ↦ false | Cell cell ↦ false | Node node base ↦ false | Number pair ↦ true | Half bits ↦ false ]
sets_number (gives f) = false
sets_number fails = false
sets_number (hangs g) = false

pub no_numbers : (entries : List JournalEntry) → list_all (λ (e : JournalEntry). not (sets_number e.made)) entries ≡ true
    → (before after : List JournalEntry) (e : JournalEntry) → entries ≡ before ++ e ∷ after → (s : Setting) → e.made ≡ sets s → (pair : ℕ)
    → s.value ≡ Number pair → ⊥
no_numbers entries none before after e is s set pair value =
    let there : Contains entries e = rw is (in_middle before after e) in
    let not_here = All-contains (λ (e : JournalEntry). not (sets_number e.made) ≡ true) entries e
    (tested (λ (e : JournalEntry). not (sets_number e.made) ≡ true) (λ (e : JournalEntry). not (sets_number e.made)) (λ e is. is) entries none) there in
    let here : sets_number e.made ≡ true = ap sets_number set ∙ ap (λ v. sets_number (sets (record { place = s.place; value = v }))) value in
    true≢false (sym not_here ∙ ap not here)

abbrev IsFalling : Setting → Type 0
IsFalling s = (cell : ℕ) → s.value ≡ Cell cell → cell < s.place

falling : All IsFalling words
falling = of_four IsFalling (setting 1 (Cell 0)) (setting 2 (Cell 1)) (setting 4 (Half 0)) (setting 5 (Half 5))
    (λ cell e. let f : 0 ≡ cell = cc in omega arith) (λ cell e. let f : 1 ≡ cell = cc in omega arith) (λ cell e. absurd (cc)) (λ cell e. absurd (cc))

winner_fits : Fits first 10 journal winner
winner_fits = record {
  seen = ([], refl);
  settings = refl;
  frames = refl;
  fails = refl;
  hung = refl;
  known = of_four (λ (k : Known). Contains made k.setting) (own 2 (Cell 1)) (own 1 (Cell 0)) (own 4 (Half 0)) (own 5 (Half 5)) (0, omega arith, refl) (
    1,
    omega arith,
    refl,
  ) (2, omega arith, refl) (3, omega arith, refl);
  own = refl;
  known_once = distinct (2 ∷ 1 ∷ 4 ∷ 5 ∷ []) refl;
  asked = of_two (λ (a : Asked). a.mark + a.weight ≤ 10) (record { mark = 3; weight = 4 }) (record { mark = 9; weight = 1 }) (omega arith) (omega arith);
}

learner_fits : Fits first 10 journal learner
learner_fits = record {
  seen = ([], refl);
  settings = refl;
  frames = refl;
  fails = refl;
  hung = refl;
  known = of_two (λ (k : Known). Contains made k.setting) (learnt 2 (Cell 1)) (learnt 1 (Cell 0)) (0, omega arith, refl) (1, omega arith, refl);
  own = refl;
  known_once = distinct (2 ∷ 1 ∷ []) refl;
  asked = of_one (λ (a : Asked). a.mark + a.weight ≤ 10) (record { mark = 7; weight = 2 }) (omega arith);
}

none_waits : All (λ (t : Took). t.waiter ≡ None) winner.took
none_waits = of_two (λ (t : Took). t.waiter ≡ None) (nobody_waits 2) (nobody_waits 1) refl refl

pub row_holds : Row first (winner ∷ learner ∷ []) journal row
row_holds = record {
  set_words = λ s. (within words made there s, within made words back s);
  set_once = distinct (2 ∷ 1 ∷ 4 ∷ 5 ∷ []) refl;
  passes_fit = of_two (Fits first 10 journal) winner learner winner_fits learner_fits;
  closed = of_two HasClosed winner learner refl refl;
  by_a_pass = tested (λ (e : JournalEntry). Contains (0 ∷ 1 ∷ []) e.pass) (λ (e : JournalEntry). nat_eq e.pass 0)
      (λ e is. (0, omega arith, sym ((Decides-eqb e.pass 0).0 is))) journal refl;
  numbered = distinct (0 ∷ 1 ∷ []) refl;
  falls = λ s c. All-contains IsFalling words s falling c;
  written_first = λ s c pair value. absurd (none_in s c);
  written = λ before after e is s set pair value. absurd (no_numbers journal refl before after e is s set pair value);
  frames = (refl, tt);
  hung_once = distinct [] refl;
  taken_once = distinct [] refl;
  taken_was_hung = λ t c waiter e. let free : t.waiter ≡ None = All-contains (λ (t : Took). t.waiter ≡ None) winner.took t none_waits c in absurd (cc);
  hung_is_taken = λ g t c. absurd (none_in g c);
}

-- A cell is not written over: no row has a journal in which the second pass sets 2 as well.
pub overwritten : (passes : List Pass) (row : List Ref)
    → Row first passes (entry 0 (sets (setting 2 (Cell 1))) ∷ entry 1 (sets (setting 2 (Cell 0))) ∷ []) row → ⊥
overwritten passes row holds = holds.set_once 0 1 0 (omega arith) (omega arith) refl
