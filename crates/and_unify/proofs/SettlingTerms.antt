-- Each cell of a row to which pairs were bound stands for a term, where the paths from the bound cells end.
use Rattle.std.proofs.Common.{ℕ, ◌+◌, ◌≡◌, ◌<◌, ◌≤◌, ◌≢◌, ◌⊎◌, false, List, [], ◌∷◌, length, refl, sym, ap, ◌∙◌, subst, inl, inr, arith}
use Rattle.std.specs.Prelude.{Contains}
use Rattle.std.proofs.lemmas.Bool.{cases_lt}
use Rattle.std.proofs.lemmas.List.Elements.{All-contains}
use Rattle.and_model.specs.Terms.{Path, Term, variables_of}
use Rattle.and_model.specs.Store.{is_half}
use Rattle.and_model.specs.declared.reference.Ref.{Ref}
use Rattle.and_model.specs.declared.reference.Ref.TheVariants.{Free, Cell, Node, Number, Half}
use Rattle.and_program.specs.Skeletons.{node_term, AllFall}
use Rattle.and_cells.specs.Ranges.{NamedProgram, IsInRange}
use Rattle.and_cells.specs.Rows.{IsSound, plain}
use Rattle.and_cells.specs.Seen.{word_at, IsSetTo, Keeps}
use Rattle.and_cells.specs.Meaning.{IsSettled, StandsFor, unbound, bound, structure, integer, cell_variable, number_in, shallow_cells}
use Rattle.and_laws.proofs.Ordered.{contains_first}
use Rattle.and_cells.specs.Ends.{Ends, IsBelow}
use Rattle.and_cells.specs.Solved.{HasTerm, AllHaveTerms}
use Rattle.and_cell_laws.proofs.Ending.{ends_are_terms}
use Rattle.and_cell_laws.proofs.Images.{contains_image}
use Rattle.and_cell_laws.proofs.Settling.{settled_rows_have_terms}
use Rattle.and_cell_laws.proofs.TermsOfStructures.{node_has_term}
use Rattle.and_cells.proofs.References.{nothing_below}
use Rattle.and_unify.specs.declared.pairs.Pair.{Pair}
use Rattle.and_unify.specs.Pairs.{AreInRange, NameNoHalf}
use Rattle.and_unify.specs.Places.{IsPlace, sides}
use Rattle.and_unify.specs.Settling.{NamesBelow, AreNewFrom}
use Rattle.and_unify.proofs.TurnParts.{part_in_range}
use Rattle.and_unify.proofs.SettlingSame.{Grows, free_or_set, same_half}
use Rattle.and_unify.proofs.SettlingPlaces.{IsKept, names_itself, whole_itself, in_range_is_whole, set_in_range, word_is_kept, part_is_kept, place_is_kept}

-- A reference in range whose paths end, with no floor, stands for a term.
pub ended_has_term : (P : NamedProgram) (row : List Ref) (r : Ref) → AllFall 0 P.skeleton.nodes → IsSound P row → IsInRange P (length row) r
    → Ends P row 0 false r → HasTerm P row r
ended_has_term P row r fall sound fits ends =
    ends_are_terms P row 0 (IsInRange P (length row)) r fall sound
    (λ cell q come set whole. set_in_range P row cell q sound set whole)
    (λ p q come part. part_in_range P (length row) p q fall come part)
    (λ q come. come) (λ q come below. absurd (nothing_below q below)) fits ends

-- What is known of a row before and after pairs were bound to it.
pub record Binds (P : NamedProgram) (old new : List Ref) (pairs : List Pair) (floor : ℕ) (bindings : List ℕ) : Type 0 where
  pub fall : AllFall 0 P.skeleton.nodes
  pub old_sound : IsSound P old
  pub words : length new ≡ length old
  pub in_range : AreInRange P (length old) pairs
  pub settled : IsSettled P old
  pub no_half : NameNoHalf P (word_at old) pairs
  pub are_new : AreNewFrom P old pairs floor
  pub stays : (place : ℕ) (r : Ref) → IsSetTo old place r → IsSetTo new place r
  pub sets : (place : ℕ) (r : Ref) → IsSetTo new place r → IsSetTo old place r ⊎ (Contains bindings place × IsPlace P (plain old) (sides pairs) r)

-- So it is known from what is required, and from what a call says that keeps the row and sets words to places of the sides.
pub binds : (P : NamedProgram) (old new : List Ref) (pairs : List Pair) (floor : ℕ) (bindings : List ℕ) → AllFall 0 P.skeleton.nodes → IsSound P old
    → AreInRange P (length old) pairs → IsSettled P old → NameNoHalf P (word_at old) pairs → AreNewFrom P old pairs floor → Keeps (plain old) (plain new)
    → ((place : ℕ) (r : Ref) → IsSetTo new place r → IsSetTo old place r ⊎ (Contains bindings place × IsPlace P (plain old) (sides pairs) r))
    → Binds P old new pairs floor bindings
binds P old new pairs floor bindings falls sound fits is_settled none is_new keeps made = record {
  fall = falls;
  old_sound = sound;
  words = keeps.words;
  in_range = fits;
  settled = is_settled;
  no_half = none;
  are_new = is_new;
  stays = keeps.knows;
  sets = made;
}

-- The row is sound, and paths from the bound cells end: with no floor from those below it, and at the floor from all.
pub record BoundEnd (P : NamedProgram) (new : List Ref) (floor : ℕ) (bindings : List ℕ) : Type 0 where
  pub sound : IsSound P new
  pub below : (cell : ℕ) → Contains bindings cell → cell < floor → is_half (word_at new cell) ≡ false → Ends P new 0 false (Cell cell)
  pub above : (cell : ℕ) → Contains bindings cell → is_half (word_at new cell) ≡ false → Ends P new floor false (Cell cell)

-- What was set newly is kept as places are,
placed_is_kept : (P : NamedProgram) (old new : List Ref) (pairs : List Pair) (floor : ℕ) (bindings : List ℕ) (r : Ref) → Binds P old new pairs floor bindings
    → IsPlace P (plain old) (sides pairs) r → IsKept P old floor r
placed_is_kept P old new pairs floor bindings r b place = place_is_kept P old pairs floor r b.fall b.old_sound b.settled b.in_range b.no_half b.are_new place

-- and is no half.
pub bound_grows : (P : NamedProgram) (old new : List Ref) (pairs : List Pair) (floor : ℕ) (bindings : List ℕ)
    → Binds P old new pairs floor bindings → Grows old new
bound_grows P old new pairs floor bindings b = record {
  stays = b.stays;
  fresh = λ place r set. elim (b.sets place r set) [
    | inl was ↦ inl was
    | inr made ↦ let kept = placed_is_kept P old new pairs floor bindings r b made.1 in inr (in_range_is_whole P (length old) r kept.in_range)
  ];
}

-- A cell that was free and is set now is on the list, and is no half.
bound_now : (P : NamedProgram) (old new : List Ref) (pairs : List Pair) (floor : ℕ) (bindings : List ℕ) (cell : ℕ) → Binds P old new pairs floor bindings
    → word_at old cell ≡ Free → word_at new cell ≢ Free → Contains bindings cell × (is_half (word_at new cell) ≡ false)
bound_now P old new pairs floor bindings cell b free set =
    elim (b.sets cell (word_at new cell) (refl, set)) [
      | inl was ↦ absurd (was.1 (sym was.0 ∙ free))
      | inr made ↦ let kept = placed_is_kept P old new pairs floor bindings (word_at new cell) b made.1 in (
        made.0,
        in_range_is_whole P (length old) (word_at new cell) kept.in_range,
      )
    ]

-- A cell that was free and is below the floor stands for a term,
free_below : (P : NamedProgram) (old new : List Ref) (pairs : List Pair) (floor : ℕ) (bindings : List ℕ) (cell : ℕ) → Binds P old new pairs floor bindings
    → BoundEnd P new floor bindings
    → cell < floor → cell < length old → word_at old cell ≡ Free → HasTerm P new (Cell cell)
free_below P old new pairs floor bindings cell b ends low below free =
    let words : length new ≡ length old = b.words in
    let in_new : cell < length new = omega arith in
    elim (free_or_set (word_at new cell)) [
      | inl still ↦ (cell_variable cell, unbound cell in_new still)
      | inr set ↦
          let (listed, whole) = bound_now P old new pairs floor bindings cell b free set in
          ended_has_term P new (Cell cell) b.fall ends.sound in_new (ends.below cell listed low whole)
    ]

-- and so does all that stood for a term and names cells below the floor.
stands_below : (P : NamedProgram) (old new : List Ref) (pairs : List Pair) (floor : ℕ) (bindings : List ℕ) (r : Ref) (t : Term)
    → Binds P old new pairs floor bindings → BoundEnd P new floor bindings
    → StandsFor P old r t → NamesBelow P floor r → HasTerm P new r
stands_below P old new pairs floor bindings r t b ends (unbound cell below free) names =
    let low : cell < floor = All-contains (λ (x : ℕ). x < floor) (cell ∷ []) cell names (contains_first cell []) in
    free_below P old new pairs floor bindings cell b ends low below free
stands_below P old new pairs floor bindings r t b ends (bound cell q u set rest) names =
    let term : HasTerm P new q = stands_below P old new pairs floor bindings q u b ends rest (b.are_new.named_below cell q set) in
    (term.0, bound cell q term.0 (b.stays cell q set) term.1)
stands_below P old new pairs floor bindings r t b ends (structure node base s all) names =
    node_has_term P new node base (λ v at.
    let named : Contains (shallow_cells P (Node node base)) (base + 1 + v.1) =
    contains_image (λ (x : Path × ℕ). base + 1 + x.1) (variables_of (node_term P.skeleton.nodes node.0)) v at in
    let low : base + 1 + v.1 < floor = All-contains (λ (x : ℕ). x < floor) (shallow_cells P (Node node base)) (base + 1 + v.1) names named in
    stands_below P old new pairs floor bindings (Cell (base + 1 + v.1)) (s v.0 v.1) b ends (all v at) (names_itself P floor (base + 1 + v.1) low))
stands_below P old new pairs floor bindings r t b ends (integer pair) names = (number_in (word_at new) pair, integer pair)

-- What is kept stood for a term where it is below the floor.
stood_below : (P : NamedProgram) (old : List Ref) (floor : ℕ) (r : Ref) → AllHaveTerms P old → IsKept P old floor r → IsBelow floor r → HasTerm P old r
stood_below P old floor Free all kept below = absurd below
stood_below P old floor (Cell cell) all kept below = all cell kept.in_range (kept.whole cell (contains_first cell []))
stood_below P old floor (Node node base) all kept below =
    node_has_term P old node base (λ v at.
    let named : Contains (shallow_cells P (Node node base)) (base + 1 + v.1) =
    contains_image (λ (x : Path × ℕ). base + 1 + x.1) (variables_of (node_term P.skeleton.nodes node.0)) v at in
    let in_row : base + 1 + v.1 < length old =
    All-contains (λ (x : Path × ℕ). base + 1 + x.1 < length old) (variables_of (node_term P.skeleton.nodes node.0)) v kept.in_range.0.cells at in
    all (base + 1 + v.1) in_row (kept.whole (base + 1 + v.1) named))
stood_below P old floor (Number pair) all kept below = absurd below
stood_below P old floor (Half bits) all kept below = absurd below

-- So what is kept and whose paths end at the floor stands for a term.
kept_has_term : (P : NamedProgram) (old new : List Ref) (pairs : List Pair) (floor : ℕ) (bindings : List ℕ) (r : Ref) → Binds P old new pairs floor bindings
    → BoundEnd P new floor bindings
    → IsKept P old floor r → Ends P new floor false r → HasTerm P new r
kept_has_term P old new pairs floor bindings r b ends kept end =
    let all = settled_rows_have_terms P old b.old_sound in
    ends_are_terms P new floor (IsKept P old floor) r b.fall ends.sound
    (λ cell q come set whole. elim (b.sets cell q set) [
      | inl was ↦ word_is_kept P old pairs floor cell q b.old_sound b.settled b.are_new was whole
      | inr made ↦ placed_is_kept P old new pairs floor bindings q b made.1
    ])
    (λ p q come part. part_is_kept P old floor p q b.fall part come)
    (λ q come. subst (λ (n : ℕ). IsInRange P n q) (sym b.words) come.in_range)
    (λ q come below.
    let term = stood_below P old floor q (all.0 b.settled) come below in
    stands_below P old new pairs floor bindings q term.0 b ends term.1 (come.keeps below))
    kept end

-- A cell from the floor on stands for a term,
free_above : (P : NamedProgram) (old new : List Ref) (pairs : List Pair) (floor : ℕ) (bindings : List ℕ) (cell : ℕ) → Binds P old new pairs floor bindings
    → BoundEnd P new floor bindings
    → floor ≤ cell → cell < length old → HasTerm P new (Cell cell)
free_above P old new pairs floor bindings cell b ends high below =
    let words : length new ≡ length old = b.words in
    let in_new : cell < length new = omega arith in
    let free : word_at old cell ≡ Free = b.are_new.free cell high in
    let kept : IsKept P old floor (Cell cell) = record {
      in_range = below;
      whole = whole_itself P old cell (ap is_half free);
      keeps = λ low. names_itself P floor cell low;
    } in
    elim (free_or_set (word_at new cell)) [
      | inl still ↦ (cell_variable cell, unbound cell in_new still)
      | inr set ↦
          let (listed, whole) = bound_now P old new pairs floor bindings cell b free set in
          kept_has_term P old new pairs floor bindings (Cell cell) b ends kept (ends.above cell listed whole)
    ]

-- and so does each cell of the row that is no half.
pub all_terms : (P : NamedProgram) (old new : List Ref) (pairs : List Pair) (floor : ℕ) (bindings : List ℕ) → Binds P old new pairs floor bindings
    → BoundEnd P new floor bindings → AllHaveTerms P new
all_terms P old new pairs floor bindings b ends = λ cell in_new whole.
    let words : length new ≡ length old = b.words in
    let below : cell < length old = omega arith in
    elim (cases_lt cell floor) [
      | inl low ↦
          let all = settled_rows_have_terms P old b.old_sound in
          let was : is_half (word_at old cell) ≡ false = same_half old new cell (bound_grows P old new pairs floor bindings b) ∙ whole in
          let term = all.0 b.settled cell below was in
          stands_below P old new pairs floor bindings (Cell cell) term.0 b ends term.1 (names_itself P floor cell low)
      | inr high ↦ free_above P old new pairs floor bindings cell b ends high below
    ]
