-- A cell that is set to a number, tried on direct calls.
use Rattle.std.proofs.Common.{ℕ, ◌≡◌, ◌<◌, ◌+◌, ◌≤◌, ◌∙◌, List, [], ◌∷◌, ◌++◌, refl, sym, ap, subst, true, true≢false, None, arith}
use Rattle.std.specs.Prelude.{All, Contains, nat_eq}
use Rattle.std.proofs.lemmas.Bool.Decides.{Decides-eqb}
use Rattle.std.proofs.lemmas.List.Elements.{All-nil, All-cons, All-contains}
use Rattle.and_model.specs.declared.reference.Ref.{Ref}
use Rattle.and_model.specs.declared.reference.Ref.TheVariants.{Cell, Number, Half}
use Rattle.and_model.specs.Store.{Setting, JournalEntry, sets, Known, Asked, Took, Pass, Fits, HasClosed, Row, IsWritten, settings_of}
use Rattle.and_model.proofs.Tested.{tested, of_one, of_two, none_in, within, distinct}
use Rattle.and_examples.specs.StoreExamples.{setting, own, nobody_waits}
use Rattle.and_examples.specs.PairExamples.{first, low, high, named, journal, writer, row, too_early}

-- the settings in the order of their places, and in that of the journal
abbrev words : List Setting
words = setting 0 (Number 2) ∷ setting 2 (Half 0) ∷ setting 3 (Half 7) ∷ []

abbrev made : List Setting
made = setting 2 (Half 0) ∷ setting 3 (Half 7) ∷ setting 0 (Number 2) ∷ []

of_three : {X : Type 0} (P : X → Type 0) (x y z : X) → P x → P y → P z → All P (x ∷ y ∷ z ∷ [])
of_three P x y z p q r = All-cons P x (y ∷ z ∷ []) p (of_two P y z q r)

there : All (Contains made) words
there = of_three (Contains made) (setting 0 (Number 2)) (setting 2 (Half 0)) (setting 3 (Half 7))
    (2, omega arith, refl) (0, omega arith, refl) (1, omega arith, refl)

back : All (Contains words) made
back = of_three (Contains words) (setting 2 (Half 0)) (setting 3 (Half 7)) (setting 0 (Number 2))
    (1, omega arith, refl) (2, omega arith, refl) (0, omega arith, refl)

abbrev IsFalling : Setting → Type 0
IsFalling s = (cell : ℕ) → s.value ≡ Cell cell → cell < s.place

falling : All IsFalling words
falling = of_three IsFalling (setting 0 (Number 2)) (setting 2 (Half 0)) (setting 3 (Half 7))
    (λ cell e. absurd (cc)) (λ cell e. absurd (cc)) (λ cell e. absurd (cc))

writer_fits : Fits first 4 journal writer
writer_fits = record {
  seen = ([], refl);
  settings = refl;
  frames = refl;
  fails = refl;
  hung = refl;
  known = of_three (λ (k : Known). Contains made k.setting)
      (own 2 (Half 0)) (own 3 (Half 7)) (own 0 (Number 2))
      (0, omega arith, refl) (1, omega arith, refl) (2, omega arith, refl);
  own = refl;
  known_once = distinct (2 ∷ 3 ∷ 0 ∷ []) refl;
  asked = All-nil (λ (a : Asked). a.mark + a.weight ≤ 4);
}

-- what an entry sets, where that is told twice
value_of : (e : JournalEntry) (s t : Setting) → e.made ≡ sets s → e.made ≡ sets t → s.value ≡ t.value
value_of e s t one other =
    let same : sets s ≡ sets t = sym one ∙ other in
    let settings : s ≡ t = cc in ap (λ (s : Setting). s.value) settings

-- a half is no number
no_number : (e : JournalEntry) (place bits : ℕ) (s : Setting) (pair : ℕ)
    → e.made ≡ sets (setting place (Half bits)) → e.made ≡ sets s → s.value ≡ Number pair → ⊥
no_number e place bits s pair is set value =
    let half : Half bits ≡ Number pair = value_of e (setting place (Half bits)) s is set ∙ value in cc

pair_is_2 : (e : JournalEntry) (s : Setting) (pair : ℕ) → e ≡ named → e.made ≡ sets s → s.value ≡ Number pair → pair ≡ 2
pair_is_2 e s pair is set value =
    let number : Number 2 ≡ Number pair = value_of e (setting 0 (Number 2)) s (ap (λ (e : JournalEntry). e.made) is) set ∙ value in
    cc

written_before : (before after : List JournalEntry) (e : JournalEntry) → journal ≡ before ++ e ∷ after
    → (s : Setting) → e.made ≡ sets s → (pair : ℕ) → s.value ≡ Number pair → IsWritten (settings_of before) pair
written_before [] after e is s set pair value =
    let same : e ≡ low = cc in absurd (no_number e 2 0 s pair (ap (λ (e : JournalEntry). e.made) same) set value)
written_before (a ∷ []) after e is s set pair value =
    let same : e ≡ high = cc in absurd (no_number e 3 7 s pair (ap (λ (e : JournalEntry). e.made) same) set value)
written_before (a ∷ b ∷ []) after e is s set pair value =
    let one : low ≡ a = cc in
    let two : high ≡ b = cc in
    let three : e ≡ named = cc in
    let both : IsWritten (settings_of (low ∷ high ∷ [])) 2 = ((0, omega arith, refl), (1, omega arith, refl)) in
    subst (λ n. IsWritten (settings_of (a ∷ b ∷ [])) n) (sym (pair_is_2 e s pair three set value))
    (subst (λ (d : JournalEntry). IsWritten (settings_of (a ∷ d ∷ [])) 2) two
    (subst (λ (d : JournalEntry). IsWritten (settings_of (d ∷ high ∷ [])) 2) one both))
written_before (a ∷ b ∷ d ∷ before) after e is s set pair value = absurd (not_more before e after (cc))
  where
    not_more : (before : List JournalEntry) (e : JournalEntry) (after : List JournalEntry) → [] ≡ before ++ e ∷ after → ⊥
    not_more [] e after is = cc
    not_more (x ∷ before) e after is = cc

nobody : All (λ (t : Took). t.waiter ≡ None) writer.took
nobody = of_one (λ (t : Took). t.waiter ≡ None) (nobody_waits 0) refl

pub row_holds : Row first (writer ∷ []) journal row
row_holds = record {
  set_words = λ s. (within words made there s, within made words back s);
  set_once = distinct (2 ∷ 3 ∷ 0 ∷ []) refl;
  passes_fit = of_one (Fits first 4 journal) writer writer_fits;
  closed = of_one HasClosed writer refl;
  by_a_pass = tested (λ (e : JournalEntry). Contains (0 ∷ []) e.pass) (λ (e : JournalEntry). nat_eq e.pass 0)
      (λ e is. (0, omega arith, sym ((Decides-eqb e.pass 0).0 is))) journal refl;
  numbered = distinct (0 ∷ []) refl;
  falls = λ s c. All-contains IsFalling words s falling c;
  written_first = λ s c pair value. absurd (none_in s c);
  written = written_before;
  frames = tt;
  hung_once = distinct [] refl;
  taken_once = distinct [] refl;
  taken_was_hung = λ t c waiter e.
      let free : t.waiter ≡ None = All-contains (λ (t : Took). t.waiter ≡ None) writer.took t nobody c in absurd (cc);
  hung_is_taken = λ g t c. absurd (none_in g c);
}

-- With one half written the cell can't be set, whatever the passes and the row.
only_two : Contains {X = ℕ} (2 ∷ []) 3 → ⊥
only_two c = true≢false (sym (All-contains (λ (n : ℕ). nat_eq n 2 ≡ true) (2 ∷ []) 3
    (of_one (λ (n : ℕ). nat_eq n 2 ≡ true) 2 refl) c))

pub half_written : (passes : List Pass) (row : List Ref) → Row first passes too_early row → ⊥
half_written passes _ holds = only_two (holds.written (low ∷ []) (high ∷ []) named refl (setting 0 (Number 2)) refl 2 refl).1
