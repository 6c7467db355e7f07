-- Rows behind which free words were put.
use Rattle.std.proofs.Common.{ℕ, ◌+◌, ◌≡◌, ◌<◌, ◌≤◌, List, [], length, replicate, Some, refl, sym, ap, ◌∙◌, subst, inl, inr, arith}
use Rattle.std.specs.Prelude.{Contains}
use Rattle.std.proofs.lemmas.Bool.{cases_lt}
use Rattle.std.proofs.lemmas.List.{get_or_past, length-append, length-replicate}
use Rattle.std.proofs.lemmas.List.Elements.{All-contains}
use Rattle.and_model.specs.Terms.{Path, Term, Substitution, variables_of}
use Rattle.and_model.specs.Solutions.{Solves}
use Rattle.and_model.specs.Store.{is_half}
use Rattle.and_model.specs.declared.reference.Ref.{Ref}
use Rattle.and_model.specs.declared.reference.Ref.TheVariants.{Free, Cell, Node, Number, Half}
use Rattle.and_program.specs.Skeletons.{node_term}
use Rattle.and_laws.proofs.Ordered.{contains_first, contains_cases, contains_none}
use Rattle.and_cell_laws.proofs.Images.{contains_origin, contains_image}
use Rattle.and_cell_laws.proofs.Between.{one_value, names_no_half, between_solved, set_is_below}
use Rattle.and_cell_laws.proofs.Structures.{in_frame, value_of_node}
use Rattle.and_cells.proofs.OneTerm.{apply_agree}
use Rattle.and_cells.specs.Ranges.{NamedProgram, CanHold}
use Rattle.and_cells.specs.Rows.{IsSound}
use Rattle.and_cells.specs.Seen.{word_at, IsSetTo}
use Rattle.and_cells.specs.Meaning.{Words, StandsFor, unbound, bound, structure, integer, cell_variable, shallow_cells, IsSettled, number_in, equations_of}
use Rattle.and_cells.specs.Meaning.{equations_between}
use Rattle.and_cells.specs.Joined.{value}
use Rattle.and_cells.specs.Solved.{HasTerm, AllHaveTerms}
use Rattle.and_cell_laws.proofs.Settling.{settled_rows_have_terms}
use Rattle.and_branch_laws.specs.Settling.{widened}
use Rattle.and_branch_laws.proofs.Rows.{widened_words, words_solved, row_solved}

-- a widened row has so many words more
pub widened_length : (row : List Ref) (by : ℕ) → length (widened row by) ≡ length row + by
widened_length row by = length-append row (replicate by Free) ∙ ap (λ (n : ℕ). length row + n) (length-replicate by Free)

-- the words behind are free
pub free_behind : (row : List Ref) (by cell : ℕ) → length row ≤ cell → word_at (widened row by) cell ≡ Free
free_behind row by cell past = widened_words row by cell ∙ get_or_past row cell Free past

module _ (P : NamedProgram) (row : List Ref) (by : ℕ) where
  abbrev wide : List Ref
  wide = widened row by

  -- What stands for a term still does.
  stands_still : (r : Ref) (t : Term) → StandsFor P row r t → StandsFor P wide r t
  stands_still r t (unbound cell below free) =
      unbound cell (let long = widened_length row by in omega arith) (widened_words row by cell ∙ free)
  stands_still r t (bound cell q u set rest) = bound cell q u (widened_words row by cell ∙ set.0, set.1) (stands_still q u rest)
  stands_still r t (structure node base s all) =
      structure node base s (λ v c. stands_still (Cell (base + 1 + v.1)) (s v.0 v.1) (all v c))
  stands_still r t (integer pair) =
      let words : word_at wide ≡ word_at row = λ i place. widened_words row by place i in
      subst (λ (w : Words). StandsFor P wide (Number pair) (number_in w pair)) words (integer pair)

  all_still : AllHaveTerms P row → AllHaveTerms P wide
  all_still all cell below whole = elim (cases_lt cell (length row)) [
    | inl low ↦
        let has : HasTerm P row (Cell cell) = all cell low (ap is_half (sym (widened_words row by cell)) ∙ whole) in
        (has.0, stands_still (Cell cell) has.0 has.1)
    | inr past ↦ (cell_variable cell, unbound cell below (free_behind row by cell past))
  ]

  -- So a row that was settled still is.
  pub settled_still : IsSound P row → IsSound P wide → IsSettled P row → IsSettled P wide
  settled_still sound wide_sound settled =
      (settled_rows_have_terms P wide wide_sound).1 (all_still ((settled_rows_have_terms P row sound).0 settled))

-- ---- What a row names

-- What a sound row's word names lies within the row.
pub names_within : (P : NamedProgram) (row : List Ref) (place : ℕ) (r : Ref) → IsSound P row → IsSetTo row place r → (cell : ℕ)
    → Contains (shallow_cells P r) cell → cell < length row
names_within P row place r sound set cell c = go r (subst (λ (x : Ref). CanHold P (length row) place x) set.0 (sound.fits place)) c
  where
    go : (r : Ref) → CanHold P (length row) place r → Contains (shallow_cells P r) cell → cell < length row
    go Free fits c = absurd (contains_none cell c)
    go (Cell other) fits c = elim (contains_cases other cell [] c) [
      | inl e ↦ let below : place < length row = set_is_below row place r set in omega (arith, fits, e)
      | inr i ↦ absurd (contains_none cell i)
    ]
    go (Node node base) fits c =
        let (v, at, is) = contains_origin (λ (v : Path × ℕ). base + 1 + v.1) (variables_of (node_term P.skeleton.nodes node.0)) cell c in
        let low : base + 1 + v.1 < length row =
        All-contains (λ (v : Path × ℕ). base + 1 + v.1 < length row) (variables_of (node_term P.skeleton.nodes node.0)) v fits.0.cells at in
        omega (arith, low, is)
    go (Number pair) fits c = absurd (contains_none cell c)
    go (Half bits) fits c = absurd (contains_none cell c)

-- ---- What solves a row

-- Two substitutions give each cell below this one the same.
abbrev pub AgreeBelow : (words : ℕ) → Substitution → Substitution → Type 0
AgreeBelow words s t = (cell : ℕ) → cell < words → s [] cell ≡ t [] cell

-- They give what names such cells alone the same value.
pub same_value : (P : NamedProgram) (w : Words) (words : ℕ) (s t : Substitution) → AgreeBelow words s t → (r : Ref)
    → ((cell : ℕ) → Contains (shallow_cells P r) cell → cell < words) → value P w s r ≡ value P w t r
same_value P w words s t agree Free low = refl
same_value P w words s t agree (Cell cell) low = ap (λ (x : Term). Some x) (agree cell (low cell (contains_first cell [])))
same_value P w words s t agree (Node node base) low =
    let body : Term = node_term P.skeleton.nodes node.0 in
    value_of_node P w s node base
    ∙ ap (λ (x : Term). Some x) (apply_agree (in_frame s base) (in_frame t base) body (λ v c.
    agree (base + 1 + v.1) (low (base + 1 + v.1) (contains_image (λ (v : Path × ℕ). base + 1 + v.1) (variables_of body) v c))))
    ∙ sym (value_of_node P w t node base)
same_value P w words s t agree (Number pair) low = refl
same_value P w words s t agree (Half bits) low = refl

-- So what solves a row's equations still does where what is given to other variables is changed.
pub solved_alike : (P : NamedProgram) (row : List Ref) (s t : Substitution) → IsSound P row → AgreeBelow (length row) s t
    → Solves s (equations_of P row) → Solves t (equations_of P row)
solved_alike P row s t sound agree solves =
    row_solved P row t (λ place r set whole.
    let w : Words = word_at row in
    let now : Solves s (equations_between P w (Cell place) r) = words_solved P row s solves place r set whole in
    let below : place < length row = set_is_below row place r set in
    let same : value P w s (Cell place) ≡ value P w s r = one_value P w s (Cell place) r now in
    let of_word : value P w s r ≡ value P w t r = same_value P w (length row) s t agree r (names_within P row place r sound set) in
    between_solved P w t (Cell place) r (t [] place) refl
    (sym of_word ∙ sym same ∙ ap (λ (x : Term). Some x) (agree place below))
    (names_no_half P w s (Cell place) r now))
