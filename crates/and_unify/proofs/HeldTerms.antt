-- In a row without circles a reference stands for a term where it holds no word of a pair. The row is looked at as if
-- its numbers and the words of pairs were free: then each cell stands for a term.
use Rattle.std.proofs.Common.{ℕ, zero, suc, ◌+◌, ◌≡◌, ◌<◌, ◌≤◌, false, List, [], ◌∷◌, length, map, refl, sym, ap, ◌∙◌, subst}
use Rattle.std.proofs.lemmas.List.Elements.{All-contains}
use Rattle.std.proofs.lemmas.Bool.{true≢false}
use Rattle.and_model.specs.Terms.{Path, Term, variables_of}
use Rattle.and_model.specs.Store.{is_half}
use Rattle.and_model.specs.declared.limits.TheConstants.{MAX_WORDS}
use Rattle.and_model.specs.declared.reference.Ref.{Ref}
use Rattle.and_model.specs.declared.reference.Ref.TheVariants.{Free, Cell, Node, Number, Half}
use Rattle.and_program.specs.Skeletons.{node_term}
use Rattle.and_cells.specs.Ranges.{NamedProgram, IsInRange, CanHold}
use Rattle.and_cells.specs.Rows.{IsSound, plain}
use Rattle.and_cells.specs.Seen.{word_at, IsSetTo, LeadsTo, here, onward}
use Rattle.and_cells.specs.Meaning
use Rattle.and_cells.specs.Meaning.{Holds, IsCircle, IsSettled, StandsFor, unbound, bound, structure, integer, cell_variable, number_in}
use Rattle.and_cells.specs.Solved.{HasTerm, AllHaveTerms}
use Rattle.and_cell_laws.proofs.Settling.{settled_rows_have_terms}
use Rattle.and_cell_laws.proofs.TermsOfStructures.{node_has_term}
use Rattle.and_unify.proofs.TurnParts.{length_map}

-- no cell that the reference holds is a word of a pair
abbrev pub HoldsNoHalf : NamedProgram → List Ref → Ref → Type 0
HoldsNoHalf P row r = (cell : ℕ) → Holds P row r cell → is_half (word_at row cell) ≡ false

-- a word, where numbers and words of pairs are taken for free ones
abbrev bare : Ref → Ref
bare Free = Free
bare (Cell cell) = Cell cell
bare (Node node base) = Node node base
bare (Number pair) = Free
bare (Half bits) = Free

-- the word at a place of the bare row
bare_word : (row : List Ref) (place : ℕ) → word_at (map bare row) place ≡ bare (word_at row place)
bare_word [] place = refl
bare_word (r ∷ row) zero = refl
bare_word (r ∷ row) (suc place) = bare_word row place

-- what is set there, is so in the row
bare_set : (word r : Ref) → bare word ≡ r → (r ≡ Free → ⊥) → word ≡ r
bare_set Free r is set = is
bare_set (Cell cell) r is set = is
bare_set (Node node base) r is set = is
bare_set (Number pair) r is set = absurd (set (sym is))
bare_set (Half bits) r is set = absurd (set (sym is))

set_in_row : (row : List Ref) (place : ℕ) (r : Ref) → IsSetTo (map bare row) place r → IsSetTo row place r
set_in_row row place r set = (bare_set (word_at row place) r (sym (bare_word row place) ∙ set.0) set.1, set.1)

bare_leads : (row : List Ref) (r to : Ref) → LeadsTo (plain (map bare row)) r to → LeadsTo (plain row) r to
bare_leads row r to (here x) = here x
bare_leads row r to (onward cell x y set rest) = onward cell x y (set_in_row row cell x set) (bare_leads row x y rest)

bare_holds : (P : NamedProgram) (row : List Ref) (r : Ref) (cell : ℕ) → Holds P (map bare row) r cell → Holds P row r cell
bare_holds P row r cell (Meaning.here c) = Meaning.here c
bare_holds P row r cell (Meaning.onward start q c set rest) = Meaning.onward start q c (set_in_row row start q set) (bare_holds P row q c rest)
bare_holds P row r cell (Meaning.inside node base v c at rest) = Meaning.inside node base v c at (bare_holds P row (Cell (base + 1 + v.1)) c rest)

-- the bare row is sound,
bare_fits : (P : NamedProgram) (words place : ℕ) (r : Ref) → CanHold P words place r → CanHold P words place (bare r)
bare_fits P words place Free fits = tt
bare_fits P words place (Cell cell) fits = fits
bare_fits P words place (Node node base) fits = fits
bare_fits P words place (Number pair) fits = tt
bare_fits P words place (Half bits) fits = tt

bare_is_no_number : (r : Ref) (pair : ℕ) → bare r ≡ Number pair → ⊥
bare_is_no_number Free pair is = absurd (cc)
bare_is_no_number (Cell cell) pair is = absurd (cc)
bare_is_no_number (Node node base) pair is = absurd (cc)
bare_is_no_number (Number p) pair is = absurd (cc)
bare_is_no_number (Half bits) pair is = absurd (cc)

bare_is_no_half : (r : Ref) → is_half (bare r) ≡ false
bare_is_no_half Free = refl
bare_is_no_half (Cell cell) = refl
bare_is_no_half (Node node base) = refl
bare_is_no_half (Number pair) = refl
bare_is_no_half (Half bits) = refl

bare_sound : (P : NamedProgram) (row : List Ref) → IsSound P row → IsSound P (map bare row)
bare_sound P row sound =
    let same : length (map bare row) ≡ length row = length_map bare row in record {
      fits = λ place. subst (CanHold P (length (map bare row)) place) (sym (bare_word row place))
          (subst (λ n. CanHold P n place (bare (word_at row place))) (sym same) (bare_fits P (length row) place (word_at row place) (sound.fits place)));
      written = λ place pair is. absurd (bare_is_no_number (word_at row place) pair (sym (bare_word row place) ∙ is));
      short = subst (λ n. n ≤ MAX_WORDS) (sym same) sound.short;
    }

-- and settled where the row has no circle.
bare_settled : (P : NamedProgram) (row : List Ref) → ((cell : ℕ) → IsCircle P row cell → ⊥) → IsSettled P (map bare row)
bare_settled P row clear = record {
  no_circle = λ cell circle. clear cell (record {
    node = circle.node;
    base = circle.base;
    leads = bare_leads row (Cell cell) (Node circle.node circle.base) circle.leads;
    holds = bare_holds P row (Node circle.node circle.base) cell circle.holds;
  });
  no_half = λ place r cell set whole holds. ap is_half (bare_word row cell) ∙ bare_is_no_half (word_at row cell);
}

-- a cell that is free in the bare row is free, a number or a half
free_stands : (P : NamedProgram) (row : List Ref) (cell : ℕ) (r : Ref) → cell < length row → word_at row cell ≡ r → bare r ≡ Free → is_half r ≡ false
    → HasTerm P row (Cell cell)
free_stands P row cell Free below word is whole = (cell_variable cell, unbound cell below word)
free_stands P row cell (Cell to) below word is whole = absurd (cc)
free_stands P row cell (Node node base) below word is whole = absurd (cc)
free_stands P row cell (Number pair) below word is whole =
    (number_in (word_at row) pair, bound cell (Number pair) (number_in (word_at row) pair) (word, λ e. absurd (cc)) (integer pair))
free_stands P row cell (Half bits) below word is whole = absurd (true≢false whole)

-- What stands for a term in the bare row and holds no half stands for one in the row.
stands_in_row : (P : NamedProgram) (row : List Ref) (r : Ref) (t : Term) → HoldsNoHalf P row r → StandsFor P (map bare row) r t → HasTerm P row r
stands_in_row P row r t no_half (unbound cell below free) =
    free_stands P row cell (word_at row cell) (subst (λ n. cell < n) (length_map bare row) below) refl (sym (bare_word row cell) ∙ free)
    (no_half cell (Meaning.here cell))
stands_in_row P row r t no_half (bound cell q u set rest) =
    let is = set_in_row row cell q set in
    let term : HasTerm P row q = stands_in_row P row q u (λ c holds. no_half c (Meaning.onward cell q c is holds)) rest in
    (term.0, bound cell q term.0 is term.1)
stands_in_row P row r t no_half (structure node base s all) =
    node_has_term P row node base (λ v at.
    stands_in_row P row (Cell (base + 1 + v.1)) (s v.0 v.1) (λ c holds. no_half c (Meaning.inside node base v c at holds)) (all v at))
stands_in_row P row r t no_half (integer pair) = (number_in (word_at row) pair, integer pair)

-- each cell in range stands for a term in the bare row, and so does a reference in range
bare_has_term : (P : NamedProgram) (row : List Ref) (r : Ref) → IsSound P row → ((cell : ℕ) → IsCircle P row cell → ⊥) → IsInRange P (length row) r
    → HasTerm P (map bare row) r
bare_has_term P row r sound clear fits =
    let all : AllHaveTerms P (map bare row) = (settled_rows_have_terms P (map bare row) (bare_sound P row sound)).0 (bare_settled P row clear) in
    let cells : (cell : ℕ) → cell < length row → HasTerm P (map bare row) (Cell cell) =
    λ cell below. all cell (subst (λ n. cell < n) (sym (length_map bare row)) below) (ap is_half (bare_word row cell) ∙ bare_is_no_half (word_at row cell)) in
    by_reference r fits cells
  where
    by_reference : (r : Ref) → IsInRange P (length row) r → ((cell : ℕ) → cell < length row → HasTerm P (map bare row) (Cell cell)) → HasTerm P (map bare row) r
    by_reference Free fits cells = absurd fits
    by_reference (Cell cell) fits cells = cells cell fits
    by_reference (Node node base) fits cells = node_has_term P (map bare row) node base (λ v at.
        cells (base + 1 + v.1) (All-contains (λ (x : Path × ℕ). base + 1 + x.1 < length row)
        (variables_of (node_term P.skeleton.nodes node.0)) v fits.0.cells at))
    by_reference (Number pair) fits cells = (number_in (word_at (map bare row)) pair, integer pair)
    by_reference (Half bits) fits cells = absurd fits

-- The law.
pub held_has_term : (P : NamedProgram) (row : List Ref) (r : Ref) → IsSound P row → IsInRange P (length row) r → ((cell : ℕ) → IsCircle P row cell → ⊥)
    → HoldsNoHalf P row r → HasTerm P row r
held_has_term P row r sound fits clear no_half =
    let term = bare_has_term P row r sound clear fits in
    stands_in_row P row r term.0 no_half term.1
