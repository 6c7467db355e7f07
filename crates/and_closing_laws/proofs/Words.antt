-- What words say of cells that are set in them.
use Rattle.std.proofs.Common.{ℕ, zero, suc, ◌+◌, ◌≡◌, ◌<◌, ◌⊎◌, inl, inr, Bool, false, cond, nat_eq, List, [], ◌∷◌, ◌++◌, length, Some}
use Rattle.std.proofs.Common.{refl, sym, ap, ◌∙◌, arith, Contains, option_map}
use Rattle.std.proofs.Common.{eq-eqb, ne_eqb}
use Rattle.std.proofs.lemmas.Bool.{cases_eq}
use Rattle.and_model.specs.Terms.{Substitution, apply, number}
use Rattle.and_model.specs.Solutions.{Equation, Solves}
use Rattle.and_model.specs.Store.{Setting, set_in, is_half}
use Rattle.and_model.specs.declared.reference.Ref.{Ref}
use Rattle.and_model.specs.declared.reference.Ref.TheVariants.{Free, Cell, Node, Number, Half}
use Rattle.and_cells.specs.Ranges.{NamedProgram}
use Rattle.and_cells.specs.Numbers.{number_of}
use Rattle.and_cells.specs.Seen.{word_at}
use Rattle.and_cells.specs.Meaning.{Words, shallow_term, shallow_cells, equations_between, equations_of}
use Rattle.and_cells.proofs.SetWords.{set_in_is, set_in_has}
use Rattle.and_cell_laws.proofs.Between.{one_value, between_solved, set_is_below}
use Rattle.and_branch_laws.proofs.Rows.{words_solved, row_solved}
use Rattle.and_store_laws.proofs.Lists.{contains_first, contains_more, contains_cases, contains_none}

-- what a setting says of the cells
abbrev pub said : NamedProgram → Words → Setting → List Equation
said P w s = equations_between P w (Cell s.place) s.value

-- Of these settings each that sets no half is solved.
abbrev pub SolvesSet : NamedProgram → Words → List Setting → Substitution → Type 0
SolvesSet P w ss t = (s : Setting) → Contains ss s → is_half s.value ≡ false → Solves t (said P w s)

-- No cell that the setting names is a word of a pair.
abbrev pub IsClean : NamedProgram → Words → Setting → Type 0
IsClean P w s = (cell : ℕ) → Contains (shallow_cells P (Cell s.place) ++ shallow_cells P s.value) cell → is_half (w cell) ≡ false

-- ---- Words that are alike where they count

-- The words of the pair that the reference names are the same.
abbrev pub SameNumber : Words → Words → Ref → Type 0
SameNumber w v r = (pair : ℕ) → r ≡ Number pair → (w pair ≡ v pair) × (w (suc pair) ≡ v (suc pair))

same_shallow : (P : NamedProgram) (w v : Words) (r : Ref) → SameNumber w v r → shallow_term P w r ≡ shallow_term P v r
same_shallow P w v Free same = refl
same_shallow P w v (Cell cell) same = refl
same_shallow P w v (Node node base) same = refl
same_shallow P w v (Number pair) same =
    let (high, low) = same pair refl in
    ap (λ (r : Ref). Some (number (number_of r (w (suc pair))))) high ∙ ap (λ (r : Ref). Some (number (number_of (v pair) r))) low
same_shallow P w v (Half bits) same = refl

-- What a setting says in some words it says in others, where its number is the same and no cell that it names is a word of a pair.
pub said_alike : (P : NamedProgram) (w v : Words) (s : Setting) (t : Substitution) → SameNumber w v s.value → IsClean P v s → Solves t (said P w s)
    → Solves t (said P v s)
said_alike P w v s t same clean solves =
    between_solved P v t (Cell s.place) s.value (t [] s.place) refl
    (ap (option_map (apply t)) (sym (same_shallow P w v s.value same)) ∙ sym (one_value P w t (Cell s.place) s.value solves)) clean

-- ---- Rows

-- The equations of a row are what its set words say.
pub row_says : (P : NamedProgram) (row : List Ref) (t : Substitution) → Solves t (equations_of P row) → SolvesSet P (word_at row) (set_in row) t
row_says P row t solves s among whole = words_solved P row t solves s.place s.value (set_in_is row s among) whole

pub says_row : (P : NamedProgram) (row : List Ref) (t : Substitution) → SolvesSet P (word_at row) (set_in row) t → Solves t (equations_of P row)
says_row P row t solves = row_solved P row t (λ place r set whole. solves (record { place = place; value = r }) (set_in_has row place r set) whole)

pub set_is_low : (row : List Ref) (s : Setting) → Contains (set_in row) s → s.place < length row
set_is_low row s among = set_is_below row s.place s.value (set_in_is row s among)

-- ---- A row of settings

-- the word that the first setting of a place gives it
abbrev pub word_in : List Setting → (place : ℕ) → Ref
word_in [] place = Free
word_in (s ∷ ss) place = cond (nat_eq s.place place) s.value (word_in ss place)

abbrev pub row_from : (ℕ → Ref) → (place count : ℕ) → List Ref
row_from f place zero = []
row_from f place (suc count) = f place ∷ row_from f (suc place) count

-- a row of so many words that has these settings
abbrev pub row_by : List Setting → (count : ℕ) → List Ref
row_by ss count = row_from (word_in ss) 0 count

pub row_long : (f : ℕ → Ref) (place count : ℕ) → length (row_from f place count) ≡ count
row_long f place zero = refl
row_long f place (suc count) = ap suc (row_long f (suc place) count)

pub row_at : (f : ℕ → Ref) (place count i : ℕ) → i < count → word_at (row_from f place count) i ≡ f (place + i)
row_at f place zero i low = absurd (omega arith)
row_at f place (suc count) zero low = let at : place ≡ place + 0 = omega arith in ap f at
row_at f place (suc count) (suc i) low = let at : suc place + i ≡ place + suc i = omega arith in row_at f (suc place) count i (omega arith) ∙ ap f at

pub row_past : (f : ℕ → Ref) (place count i : ℕ) → (i < count → ⊥) → word_at (row_from f place count) i ≡ Free
row_past f place zero i high = refl
row_past f place (suc count) zero high = absurd (high (omega arith))
row_past f place (suc count) (suc i) high = row_past f (suc place) count i (λ low. high (omega arith))

-- A word that is not free was set so.
pub word_was_set : (ss : List Setting) (place : ℕ) → (word_in ss place ≡ Free)
    ⊎ ((s : Setting) × Contains ss s × (s.place ≡ place) × (s.value ≡ word_in ss place))
word_was_set [] place = inl refl
word_was_set (s ∷ ss) place = elim (cases_eq s.place place) [
  | inl same ↦ inr (s, contains_first s ss, same, sym (ap (λ (b : Bool). cond b s.value (word_in ss place)) (eq-eqb s.place place same)))
  | inr other ↦
      let later : word_in (s ∷ ss) place ≡ word_in ss place = ap (λ (b : Bool). cond b s.value (word_in ss place)) (ne_eqb s.place place other) in
      elim (word_was_set ss place) [
        | inl free ↦ inl (later ∙ free)
        | inr r ↦ inr (r.0, contains_more s r.0 ss r.1, r.2, r.3 ∙ sym later)
      ]
]

-- Where all settings are those of some words, so is the first one of a place.
module _ (w : Words) where
  pub word_is : (ss : List Setting) → ((s : Setting) → Contains ss s → w s.place ≡ s.value) → (s : Setting) → Contains ss s → word_in ss s.place ≡ s.value
  word_is [] has s among = absurd (contains_none s among)
  word_is (x ∷ ss) has s among = elim (cases_eq x.place s.place) [
    | inl same ↦ ap (λ (b : Bool). cond b x.value (word_in ss s.place)) (eq-eqb x.place s.place same)
        ∙ sym (has x (contains_first x ss)) ∙ ap w same ∙ has s among
    | inr other ↦ ap (λ (b : Bool). cond b x.value (word_in ss s.place)) (ne_eqb x.place s.place other)
        ∙ elim (contains_cases x s ss among) [
          | inl is ↦ absurd (other (ap (λ (z : Setting). z.place) (sym is)))
          | inr more ↦ word_is ss (λ z c. has z (contains_more x z ss c)) s more
        ]
  ]
