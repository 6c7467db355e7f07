-- What is known of a row and pairs from whose cells and sides each path ends.
use Rattle.std.proofs.Common.{ℕ, ◌+◌, ◌≡◌, ◌<◌, false, List, [], ◌++◌, length, sym, ap, ◌∙◌, subst, inl, inr, arith}
use Rattle.std.specs.Prelude.{All}
use Rattle.std.proofs.lemmas.List.{get_or_past}
use Rattle.std.proofs.lemmas.List.Elements.{All-contains, Contains-append_cases}
use Rattle.and_model.specs.Terms.{Path, Term, variables_of}
use Rattle.and_model.specs.Store.{is_half}
use Rattle.and_model.specs.declared.reference.Ref.{Ref}
use Rattle.and_model.specs.declared.reference.Ref.TheVariants.{Free, Cell, Node, Number, Half}
use Rattle.and_program.specs.Skeletons.{node_term, AllFall}
use Rattle.and_cells.specs.Ranges.{NamedProgram, IsInRange, CanHold}
use Rattle.and_cells.specs.Rows.{IsSound}
use Rattle.and_cells.specs.Seen.{word_at}
use Rattle.and_cells.specs.Meaning.{IsSettled, StandsFor, unbound, bound, structure, integer, shallow_cells}
use Rattle.and_laws.proofs.Ordered.{contains_none}
use Rattle.and_cells.specs.Ends.{Ends}
use Rattle.and_cells.specs.Solved.{HasTerm}
use Rattle.and_cell_laws.proofs.Between.{set_is_below}
use Rattle.and_cell_laws.proofs.Images.{contains_origin}
use Rattle.and_cell_laws.proofs.Settling.{settled_rows_have_terms}
use Rattle.and_cell_laws.proofs.TermsOfRows.{stands_whole, cell_is_whole}
use Rattle.and_unify.specs.declared.pairs.Pair.{Pair}
use Rattle.and_unify.specs.Pairs.{AreInRange, NameNoHalf}
use Rattle.and_unify.specs.Settling.{NamesBelow, KeepsBelow, AreNewFrom}
use Rattle.and_unify.proofs.TurnAgree.{IsWhole}
use Rattle.and_unify.proofs.SettlingPlaces.{all_of, names_itself, whole_itself}
use Rattle.and_unify.proofs.SettlingTerms.{ended_has_term}

-- The row is settled.
pub given_is_settled : (P : NamedProgram) (row : List Ref) → AllFall 0 P.skeleton.nodes → IsSound P row
    → ((cell : ℕ) → cell < length row → is_half (word_at row cell) ≡ false → Ends P row 0 false (Cell cell)) → IsSettled P row
given_is_settled P row fall sound ends =
    let terms = settled_rows_have_terms P row sound in
    terms.1 (λ cell below whole. ended_has_term P row (Cell cell) fall sound below (ends cell below whole))

-- What stands for a term names no word of a pair,
term_is_whole : (P : NamedProgram) (row : List Ref) (r : Ref) (t : Term) → StandsFor P row r t → IsWhole P (word_at row) r
term_is_whole P row r t (unbound cell below free) = whole_itself P row cell (ap is_half free)
term_is_whole P row r t (bound cell q u set rest) = whole_itself P row cell (ap is_half set.0 ∙ stands_whole P row q u rest)
term_is_whole P row r t (structure node base s all) = λ x at.
    let (v, has, is) = contains_origin (λ (v : Path × ℕ). base + 1 + v.1) (variables_of (node_term P.skeleton.nodes node.0)) x at in
    ap (λ (y : ℕ). is_half (word_at row y)) is ∙ cell_is_whole P row (base + 1 + v.1) (s v.0 v.1) (all v has)
term_is_whole P row r t (integer pair) = λ x at. absurd (contains_none x at)

side_is_whole : (P : NamedProgram) (row : List Ref) (r : Ref) → AllFall 0 P.skeleton.nodes → IsSound P row → IsInRange P (length row) r → Ends P row 0 false r
    → IsWhole P (word_at row) r
side_is_whole P row r fall sound fits ends = let term : HasTerm P row r = ended_has_term P row r fall sound fits ends in term_is_whole P row r term.0 term.1

-- and so the sides do.
pub given_names_no_half : (P : NamedProgram) (row : List Ref) (pairs : List Pair) → AllFall 0 P.skeleton.nodes → IsSound P row → AreInRange P (length row) pairs
    → All (λ (p : Pair). Ends P row 0 false p.left × Ends P row 0 false p.right) pairs → NameNoHalf P (word_at row) pairs
given_names_no_half P row pairs fall sound fits ends =
    all_of (λ (p : Pair). All (λ (cell : ℕ). is_half (word_at row cell) ≡ false) (shallow_cells P p.left ++ shallow_cells P p.right)) pairs (λ p at.
    let range = All-contains (λ (p : Pair). IsInRange P (length row) p.left × IsInRange P (length row) p.right) pairs p fits at in
    let end = All-contains (λ (p : Pair). Ends P row 0 false p.left × Ends P row 0 false p.right) pairs p ends at in
    all_of (λ (cell : ℕ). is_half (word_at row cell) ≡ false) (shallow_cells P p.left ++ shallow_cells P p.right) (λ cell named.
    elim (Contains-append_cases (shallow_cells P p.left) (shallow_cells P p.right) cell named) [
      | inl left ↦ side_is_whole P row p.left fall sound range.0 end.0 cell left
      | inr right ↦ side_is_whole P row p.right fall sound range.1 end.1 cell right
    ]))

-- What is in range names cells of the row,
names_in_row : (P : NamedProgram) (words : ℕ) (r : Ref) → IsInRange P words r → NamesBelow P words r
names_in_row P words Free fits = absurd fits
names_in_row P words (Cell cell) fits = names_itself P words cell fits
names_in_row P words (Node node base) fits =
    all_of (λ (x : ℕ). x < words) (shallow_cells P (Node node base)) (λ x at.
    let vs : List (Path × ℕ) = variables_of (node_term P.skeleton.nodes node.0) in
    let (v, has, is) = contains_origin (λ (v : Path × ℕ). base + 1 + v.1) vs x at in
    subst (λ (y : ℕ). y < words) (sym is) (All-contains (λ (v : Path × ℕ). base + 1 + v.1 < words) vs v fits.0.cells has))
names_in_row P words (Number pair) fits = all_of (λ (x : ℕ). x < words) [] (λ x at. absurd (contains_none x at))
names_in_row P words (Half bits) fits = absurd fits

-- and so does what a word is set to.
held_names_in_row : (P : NamedProgram) (words cell : ℕ) (r : Ref) → cell < words → CanHold P words cell r → NamesBelow P words r
held_names_in_row P words cell Free below fits = all_of (λ (x : ℕ). x < words) [] (λ x at. absurd (contains_none x at))
held_names_in_row P words cell (Cell other) below fits = names_itself P words other (omega arith)
held_names_in_row P words cell (Node node base) below fits = names_in_row P words (Node node base) fits
held_names_in_row P words cell (Number pair) below fits = names_in_row P words (Number pair) fits
held_names_in_row P words cell (Half bits) below fits = all_of (λ (x : ℕ). x < words) [] (λ x at. absurd (contains_none x at))

-- So none of a row's words is new where the floor is the row's end.
pub none_is_new : (P : NamedProgram) (row : List Ref) (pairs : List Pair) (floor : ℕ) → IsSound P row → AreInRange P (length row) pairs → floor ≡ length row
    → AreNewFrom P row pairs floor
none_is_new P row pairs floor sound fits end = subst (AreNewFrom P row pairs) (sym end) (record {
  within = omega arith;
  free = λ cell past. get_or_past row cell Free past;
  named_below = λ cell r set.
      let below : cell < length row = set_is_below row cell r set in
      held_names_in_row P (length row) cell r below (subst (CanHold P (length row) cell) set.0 (sound.fits cell));
  sides = all_of (λ (p : Pair). KeepsBelow P (length row) p.left × KeepsBelow P (length row) p.right) pairs (λ p at.
      let range = All-contains (λ (p : Pair). IsInRange P (length row) p.left × IsInRange P (length row) p.right) pairs p fits at in
      (λ below. names_in_row P (length row) p.left range.0, λ below. names_in_row P (length row) p.right range.1));
})
