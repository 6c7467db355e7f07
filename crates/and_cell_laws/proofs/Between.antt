-- What solves the equations between two references, and those of a row.
use Rattle.std.proofs.Common.{ℕ, ◌≡◌, ◌<◌, Bool, true, false, cond, List, [], ◌∷◌, ◌++◌, length, map, Option, Some, None, refl, sym, ap, ◌∙◌, subst, inl, inr}
use Rattle.std.specs.Prelude.{Contains, filter}
use Rattle.std.specs.Option.{option_map}
use Rattle.std.proofs.lemmas.Bool.{cases_lt}
use Rattle.std.proofs.lemmas.List.{get_or_past}
use Rattle.std.proofs.lemmas.List.Elements.{Contains-append_right}
use Rattle.std.proofs.lemmas.Option.{none-some, same_Some}
use Rattle.and_model.specs.Terms.{Term, Substitution, apply}
use Rattle.and_model.specs.Solutions.{Equation, Solves, falsehood}
use Rattle.and_model.specs.Store.{is_half}
use Rattle.and_model.specs.declared.reference.Ref.{Ref}
use Rattle.and_model.specs.declared.reference.Ref.TheVariants.{Free, Cell}
use Rattle.and_cells.specs.Ranges.{NamedProgram}
use Rattle.and_cells.specs.Seen.{word_at, IsSetTo}
use Rattle.and_cells.specs.Meaning.{Words, shallow_term, shallow_cells, same_terms, equations_between, equations_of}
use Rattle.and_laws.proofs.Ordered.{contains_first, contains_more, contains_cases, contains_none}
use Rattle.and_laws.proofs.Solving.{solves_join, solves_front, solves_back}
use Rattle.and_cells.specs.Joined.{value}
use Rattle.and_cell_laws.proofs.Told.{told_rows_are_known}

-- nothing solves a falsehood
no_falsehood : (t : Substitution) → Solves t (falsehood ∷ []) → ⊥
no_falsehood t s = let e = s.0 in cc

-- Where the equation between two references is solved, their terms become the same,
same_terms_agree : (t : Substitution) (a b : Option Term) → Solves t (same_terms a b) → option_map (apply t) a ≡ option_map (apply t) b
same_terms_agree t None b s = absurd (no_falsehood t s)
same_terms_agree t (Some u) None s = absurd (no_falsehood t s)
same_terms_agree t (Some u) (Some v) s = ap (λ (x : Term). Some x) s.0

-- and where these become the same, it is solved.
same_terms_solved : (t : Substitution) (a b : Option Term) (u : Term) → option_map (apply t) a ≡ Some u → option_map (apply t) b ≡ Some u
    → Solves t (same_terms a b)
same_terms_solved t None b u one other = absurd (none-some u one)
same_terms_solved t (Some x) None u one other = absurd (none-some u other)
same_terms_solved t (Some x) (Some y) u one other = (same_Some (apply t x) (apply t y) (one ∙ sym other), tt)

-- a falsehood for each cell that passes the test
abbrev falsehoods : (ℕ → Bool) → List ℕ → List Equation
falsehoods test cells = map (λ (cell : ℕ). falsehood) (filter test cells)

-- a cell for which no falsehood stands does not pass the test
falsehoods_more : (t : Substitution) (test : ℕ → Bool) (x : ℕ) (cells : List ℕ) (b : Bool) → test x ≡ b → Solves t (falsehoods test (x ∷ cells))
    → (b ≡ false) × Solves t (falsehoods test cells)
falsehoods_more t test x cells true e s =
    let Claim : Bool → Type 0 = λ (y : Bool). Solves t (map (λ (cell : ℕ). falsehood) (cond y (x ∷ filter test cells) (filter test cells))) in
    let broken : Claim true = subst Claim e s in
    absurd (no_falsehood t (broken.0, tt))
falsehoods_more t test x cells false e s =
    let Claim : Bool → Type 0 = λ (y : Bool). Solves t (map (λ (cell : ℕ). falsehood) (cond y (x ∷ filter test cells) (filter test cells))) in
    (refl, subst Claim e s)

-- Where all falsehoods are solved, no cell passes the test,
no_falsehoods : (t : Substitution) (test : ℕ → Bool) (cells : List ℕ) → Solves t (falsehoods test cells) → (cell : ℕ) → Contains cells cell → test cell ≡ false
no_falsehoods t test [] s cell h = absurd (contains_none cell h)
no_falsehoods t test (x ∷ cells) s cell h =
    let parts : (test x ≡ false) × Solves t (falsehoods test cells) = falsehoods_more t test x cells (test x) refl s in
    elim (contains_cases x cell cells h) [ inl e ↦ ap test e ∙ parts.0 | inr i ↦ no_falsehoods t test cells parts.1 cell i ]

-- and where none passes, there is no falsehood to solve.
falsehoods_solved : (t : Substitution) (test : ℕ → Bool) (cells : List ℕ) → ((cell : ℕ) → Contains cells cell → test cell ≡ false)
    → Solves t (falsehoods test cells)
falsehoods_solved t test [] whole = tt
falsehoods_solved t test (x ∷ cells) whole =
    let Claim : Bool → Type 0 = λ (y : Bool). Solves t (map (λ (cell : ℕ). falsehood) (cond y (x ∷ filter test cells) (filter test cells))) in
    let first : test x ≡ false = whole x (contains_first x cells) in
    let rest : Claim false = falsehoods_solved t test cells (λ cell h. whole cell (contains_more x cell cells h)) in
    subst Claim (sym first) rest

-- Where the equations between two references are solved, these have one value,
pub one_value : (P : NamedProgram) (w : Words) (t : Substitution) (l r : Ref) → Solves t (equations_between P w l r) → value P w t l ≡ value P w t r
one_value P w t l r s =
    let same : List Equation = same_terms (shallow_term P w l) (shallow_term P w r) in
    same_terms_agree t (shallow_term P w l) (shallow_term P w r)
    (solves_front t same (falsehoods (λ (cell : ℕ). is_half (w cell)) (shallow_cells P l ++ shallow_cells P r)) s)

-- and none of the cells that they name is a half.
pub names_no_half : (P : NamedProgram) (w : Words) (t : Substitution) (l r : Ref) → Solves t (equations_between P w l r)
    → (cell : ℕ) → Contains (shallow_cells P l ++ shallow_cells P r) cell → is_half (w cell) ≡ false
names_no_half P w t l r s =
    let same : List Equation = same_terms (shallow_term P w l) (shallow_term P w r) in
    let test : ℕ → Bool = λ (cell : ℕ). is_half (w cell) in
    no_falsehoods t test (shallow_cells P l ++ shallow_cells P r) (solves_back t same (falsehoods test (shallow_cells P l ++ shallow_cells P r)) s)

-- The converse of both.
pub between_solved : (P : NamedProgram) (w : Words) (t : Substitution) (l r : Ref) (u : Term) → value P w t l ≡ Some u → value P w t r ≡ Some u
    → ((cell : ℕ) → Contains (shallow_cells P l ++ shallow_cells P r) cell → is_half (w cell) ≡ false) → Solves t (equations_between P w l r)
between_solved P w t l r u left right whole =
    let same : List Equation = same_terms (shallow_term P w l) (shallow_term P w r) in
    let test : ℕ → Bool = λ (cell : ℕ). is_half (w cell) in
    let cells : List ℕ = shallow_cells P l ++ shallow_cells P r in
    solves_join t same (falsehoods test cells) (same_terms_solved t (shallow_term P w l) (shallow_term P w r) u left right)
    (falsehoods_solved t test cells whole)

-- So in a solution of a row's equations a set cell has the value of what it is set to, unless that is a half,
pub set_agrees : (P : NamedProgram) (row : List Ref) (t : Substitution) (cell : ℕ) (r : Ref) → Solves t (equations_of P row)
    → IsSetTo row cell r → is_half r ≡ false
    → Some (t [] cell) ≡ value P (word_at row) t r
set_agrees P row t cell r s set whole =
    let told = told_rows_are_known P row t in
    one_value P (word_at row) t (Cell cell) r (told.1 s cell r set whole)

-- which names no half.
pub set_names_no_half : (P : NamedProgram) (row : List Ref) (t : Substitution) (place : ℕ) (r : Ref) → Solves t (equations_of P row)
    → IsSetTo row place r → is_half r ≡ false
    → (cell : ℕ) → Contains (shallow_cells P r) cell → is_half (word_at row cell) ≡ false
set_names_no_half P row t place r s set whole cell h =
    let told = told_rows_are_known P row t in
    names_no_half P (word_at row) t (Cell place) r (told.1 s place r set whole) cell (Contains-append_right (place ∷ []) (shallow_cells P r) cell h)

-- A word that is set is one of the row's.
pub set_is_below : (row : List Ref) (place : ℕ) (r : Ref) → IsSetTo row place r → place < length row
set_is_below row place r set =
    elim (cases_lt place (length row)) [ inl below ↦ below | inr past ↦ absurd (set.1 (sym set.0 ∙ get_or_past row place Free past)) ]
