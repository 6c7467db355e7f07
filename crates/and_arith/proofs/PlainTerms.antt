-- What is known of plain cells is what their row says.
use Rattle.std.proofs.Common.{ℕ, pos, zero, suc, ◌≡◌, ◌≢◌, ◌<◌, ◌+◌, List, [], ◌∷◌, map, length, Some, refl, ap, sym, ◌∙◌, subst, arith, inl, inr}
use Rattle.std.specs.Prelude.{Contains}
use Rattle.std.proofs.lemmas.Option.{slice_get-get_or}
use Rattle.std.proofs.lemmas.List.Elements.{All-contains, Contains-append_left, Contains-append_right}
use Rattle.and_model.specs.Terms as terms
use Rattle.and_model.specs.Terms.{Path, Term, Terms, Substitution, apply, apply_all, variables_of, variables_in}
use Rattle.and_model.specs.declared.numbers.NodeNo.{NodeNo}
use Rattle.and_model.specs.declared.reference.Ref.{Ref}
use Rattle.and_model.specs.declared.reference.Ref.TheVariants.{Free, Cell, Node, Number, Half}
use Rattle.and_program.specs.Skeletons as shapes
use Rattle.and_program.specs.Skeletons.{Shape, term_list, nth, shape_term, terms_behind, node_term, AllFall, IsFalling}
use Rattle.and_program.specs.Loaded.{shape_at}
use Rattle.and_program.specs.Shown.{resolved, arguments_in}
use Rattle.and_cells.specs.Ranges.{NamedProgram, IsInRange, IsInRangeOrHalf, CanHold}
use Rattle.and_cells.specs.Rows.{IsSound, plain}
use Rattle.and_cells.specs.Seen.{IsSetTo, IsKnownWritten, IsWrittenIfNumber, word_at}
use Rattle.and_cells.proofs.Chains.{held_in_range}
use Rattle.and_cells.specs.Numbers.{number_of}
use Rattle.and_cells.specs.Meaning as meaning
use Rattle.and_cells.specs.Meaning.{StandsFor, cell_variable}
use Rattle.and_cells.specs.Solved.{HasTerm}
use Rattle.and_cells.specs.Parts.{part_at, parts_of}
use Rattle.and_cells.proofs.Among.{among_none, among_first, among_more, among_cases}
use Rattle.and_cell_laws.proofs.Structures.{node_term_shape}
use Rattle.and_cell_laws.proofs.TermsOfStructures.{structure_has_term}
use Rattle.and_value_laws.specs.Values.{KnownAs, AllKnownAs, unbound, bound, integer, literal, structure, no_parts, more_parts}
use Rattle.and_value_laws.proofs.KnownTerms.{IsOnce, one_known}
use Rattle.and_arith.proofs.Ranging.{argument_below, part_in_range}

-- a row has one word at a place
plain_once : (row : List Ref) → IsOnce (plain row)
plain_once row place q r a b = sym a.0 ∙ b.0

-- the cells of these variables are known as what a substitution gives
abbrev CellsKnown : NamedProgram → List Ref → (base : ℕ) → Substitution → List (Path × ℕ) → Type 0
CellsKnown P row base u vs = (v : Path × ℕ) → Contains vs v → KnownAs P (plain row) (Cell (base + 1 + v.1)) (u v.0 v.1)

module _ (P : NamedProgram) (fall : AllFall 0 P.skeleton.nodes) (row : List Ref) (base : ℕ) (u : Substitution) where
  -- a node is known, where it is found, as its term with the cells' terms
  abbrev Found : ℕ → Type 0
  Found m = CellsKnown P row base u (variables_of (node_term P.skeleton.nodes m))
      → KnownAs P (plain row) (part_at P base m) (apply u (node_term P.skeleton.nodes m))

  all_found : (ms : List ℕ) → ((m : ℕ) → Contains ms m → Found m)
      → CellsKnown P row base u (variables_in (term_list (map (nth (terms_behind [] P.skeleton.nodes)) ms)))
      → AllKnownAs P (plain row) (map (part_at P base) ms) (apply_all u (term_list (map (nth (terms_behind [] P.skeleton.nodes)) ms)))
  all_found [] each cells = no_parts
  all_found (m ∷ ms) each cells =
      let first : List (Path × ℕ) = variables_of (node_term P.skeleton.nodes m) in
      let others : List (Path × ℕ) = variables_in (term_list (map (nth (terms_behind [] P.skeleton.nodes)) ms)) in
      more_parts (part_at P base m) (apply u (node_term P.skeleton.nodes m)) (map (part_at P base) ms)
      (apply_all u (term_list (map (nth (terms_behind [] P.skeleton.nodes)) ms)))
      (each m (among_first m ms) (λ v c. cells v (Contains-append_left first others v c)))
      (all_found ms (λ k c. each k (among_more m k ms c)) (λ v c. cells v (Contains-append_right first others v c)))

  found_by : (m : ℕ) (shape : Shape) → shape_at P.skeleton m ≡ shape → m < length P.skeleton.nodes → ((k : ℕ) → k < m → Found k)
      → CellsKnown P row base u (variables_of (node_term P.skeleton.nodes m))
      → KnownAs P (plain row) (resolved shape (record { 0 = m }) base) (apply u (node_term P.skeleton.nodes m))
  found_by m (shapes.variable k) at there below cells =
      let own : node_term P.skeleton.nodes m ≡ terms.variable [] k =
      node_term_shape P.skeleton.nodes m fall ∙ ap (shape_term (terms_behind [] P.skeleton.nodes)) at in
      subst (λ (t : Term). KnownAs P (plain row) (Cell (base + 1 + k)) (apply u t)) (sym own)
      (cells ([], k) (subst (λ (t : Term). Contains (variables_of t) ([], k)) (sym own) (among_first ([], k) [])))
  found_by m (shapes.number z) at there below cells =
      let own : node_term P.skeleton.nodes m ≡ terms.number z =
      node_term_shape P.skeleton.nodes m fall ∙ ap (shape_term (terms_behind [] P.skeleton.nodes)) at in
      subst (λ (t : Term). KnownAs P (plain row) (Node (record { 0 = m }) base) (apply u t)) (sym own) (literal (record { 0 = m }) base z at)
  found_by m (shapes.compound name arguments) at there below cells =
      let ts : Terms = term_list (map (nth (terms_behind [] P.skeleton.nodes)) arguments) in
      let own : node_term P.skeleton.nodes m ≡ terms.compound name ts =
      node_term_shape P.skeleton.nodes m fall ∙ ap (shape_term (terms_behind [] P.skeleton.nodes)) at in
      subst (λ (t : Term). KnownAs P (plain row) (Node (record { 0 = m }) base) (apply u t)) (sym own)
      (structure (record { 0 = m }) base name arguments (apply_all u ts) at
      (all_found arguments (λ k c. below k (argument_below P fall m k there (subst (λ (s : Shape). Contains (arguments_in s) k) (sym at) c)))
      (subst (λ (t : Term). CellsKnown P row base u (variables_of t)) own cells)))

  found_below : (n m : ℕ) → m < n → m < length P.skeleton.nodes → Found m
  found_below zero m low there cells = absurd (omega arith)
  found_below (suc n) m low there cells = found_by m (shape_at P.skeleton m) refl there (λ k less. found_below n k (omega arith) (omega arith)) cells

-- what is known to be set has words
pair_words : (P : NamedProgram) (row : List Ref) → IsSound P row → (pair : ℕ) → IsKnownWritten (plain row) pair
    → (word_at row pair ≢ Free) × (word_at row (suc pair) ≢ Free)
pair_words P row sound pair (inl both) = ((λ e. both.0.1.1 (sym both.0.1.0 ∙ e)), (λ e. both.1.1.1 (sym both.1.1.0 ∙ e)))
pair_words P row sound pair (inr is) = sound.written is.0 pair is.1.0

-- a cell that is set to a number is set to one that is written
set_written : (P : NamedProgram) (row : List Ref) → IsSound P row → (cell : ℕ) (q : Ref) → IsSetTo row cell q → IsWrittenIfNumber (plain row) q
set_written P row sound cell q is pair e = inr (cell, subst (λ x. IsSetTo row cell x) e is)

-- what is found where the shape is no variable
resolved_node : (s : Shape) (node : NodeNo) (base : ℕ) → ((k : ℕ) → s ≢ shapes.variable k) → resolved s node base ≡ Node node base
resolved_node (shapes.variable k) node base other = absurd (other k refl)
resolved_node (shapes.number z) node base other = refl
resolved_node (shapes.compound name ns) node base other = refl

-- what stands for a term is no half
stands_fits : (P : NamedProgram) (row : List Ref) (words : ℕ) (q : Ref) (t : Term) → StandsFor P row q t → IsInRangeOrHalf P words q → IsInRange P words q
stands_fits P row words q t (meaning.unbound cell below free) fits = fits
stands_fits P row words q t (meaning.bound cell r v is rest) fits = fits
stands_fits P row words q t (meaning.structure node base u cells) fits = fits
stands_fits P row words q t (meaning.integer pair) fits = fits

known_fits : (P : NamedProgram) (row : List Ref) (words : ℕ) (q : Ref) (t : Term) → KnownAs P (plain row) q t → IsInRangeOrHalf P words q → IsInRange P words q
known_fits P row words q t (unbound cell none) fits = fits
known_fits P row words q t (bound cell r v is rest) fits = fits
known_fits P row words q t (integer pair high low a b) fits = fits
known_fits P row words q t (literal node base z at) fits = fits
known_fits P row words q t (structure node base name arguments ts at parts) fits = fits

-- a word that is set to nothing is free
free_word : (row : List Ref) (cell : ℕ) (w : Ref) → word_at row cell ≡ w → ((q : Ref) → IsSetTo row cell q → ⊥) → word_at row cell ≡ Free
free_word row cell Free e none = e
free_word row cell (Cell other) e none = absurd (none (Cell other) (e, (λ f. cc)))
free_word row cell (Node node base) e none = absurd (none (Node node base) (e, (λ f. cc)))
free_word row cell (Number pair) e none = absurd (none (Number pair) (e, (λ f. cc)))
free_word row cell (Half bits) e none = absurd (none (Half bits) (e, (λ f. cc)))

module _ (P : NamedProgram) (fall : AllFall 0 P.skeleton.nodes) (row : List Ref) (sound : IsSound P row) where
  set_fits : (cell : ℕ) (q : Ref) → IsSetTo row cell q → cell < length row → IsInRangeOrHalf P (length row) q
  set_fits cell q is below = held_in_range P (length row) cell q below is.1 (subst (CanHold P (length row) cell) is.0 (sound.fits cell))

  -- What a reference stands for in the row is what it is known as,
  pub stands_known : (r : Ref) (t : Term) → StandsFor P row r t → IsInRange P (length row) r → IsWrittenIfNumber (plain row) r → KnownAs P (plain row) r t
  stands_known r t (meaning.unbound cell below free) fits written = unbound cell (λ q is. is.1 (sym is.0 ∙ free))
  stands_known r t (meaning.bound cell q v is rest) fits written =
      bound cell q v is (stands_known q v rest (stands_fits P row (length row) q v rest (set_fits cell q is fits)) (set_written P row sound cell q is))
  stands_known r t (meaning.structure node base u cells) fits written =
      let known = found_by P fall row base u node.0 (shape_at P.skeleton node.0) refl fits.0.there
      (λ k less. found_below P fall row base u (suc k) k (omega arith) (let there = fits.0.there in omega arith))
      (λ v c. stands_known (Cell (base + 1 + v.1)) (u v.0 v.1) (cells v c)
      (All-contains (λ (x : Path × ℕ). base + 1 + x.1 < length row) (variables_of (node_term P.skeleton.nodes node.0)) v fits.0.cells c)
      (λ pair e. absurd (cc))) in
      let here : resolved (shape_at P.skeleton node.0) node base ≡ Node node base = resolved_node (shape_at P.skeleton node.0) node base
      (λ k e. fits.1 k (slice_get-get_or P.skeleton.nodes node.0 (shapes.number (pos 0)) fits.0.there ∙ ap (λ (x : Shape). Some x) e)) in
      subst (λ q. KnownAs P (plain row) q (apply u (node_term P.skeleton.nodes node.0))) here known
  stands_known r t (meaning.integer pair) fits written =
      let words = pair_words P row sound pair (written pair refl) in
      integer pair (word_at row pair) (word_at row (suc pair)) (refl, words.0) (refl, words.1)

  mutual
    -- and the other way round.
    pub known_stands : (r : Ref) (t : Term) → KnownAs P (plain row) r t → IsInRange P (length row) r → StandsFor P row r t
    known_stands r t (unbound cell none) fits = meaning.unbound cell fits (free_word row cell (word_at row cell) refl none)
    known_stands r t (bound cell q v is rest) fits =
        meaning.bound cell q v is (known_stands q v rest (known_fits P row (length row) q v rest (set_fits cell q is fits)))
    known_stands r t (integer pair high low a b) fits =
        subst (StandsFor P row (Number pair)) (ap (λ x. terms.number (number_of x (word_at row (suc pair)))) a.0
        ∙ ap (λ x. terms.number (number_of high x)) b.0) (meaning.integer pair)
    known_stands r t (literal node base z at) fits =
        let own : node_term P.skeleton.nodes node.0 ≡ terms.number z =
        node_term_shape P.skeleton.nodes node.0 fall ∙ ap (shape_term (terms_behind [] P.skeleton.nodes)) at in
        let free : Substitution = λ q k. terms.variable q k in
        subst (λ (x : Term). StandsFor P row (Node node base) (apply free x)) own
        (meaning.structure node base free (λ v c. absurd (among_none v (subst (λ (x : Term). Contains (variables_of x) v) own c))))
    known_stands r t (structure node base name arguments ts at parts) fits =
        let parts_are_so : parts_of P (Node node base) ≡ map (part_at P base) arguments = ap (λ (x : Shape). map (part_at P base) (arguments_in x)) at in
        let has = all_have (map (part_at P base) arguments) ts parts
        (λ q c. part_in_range P fall (length row) node base q fits (subst (λ xs. Contains xs q) (sym parts_are_so) c)) in
        let term : HasTerm P row (Node node base) = structure_has_term P row node base fall fits (λ q c. has q (subst (λ xs. Contains xs q) parts_are_so c)) in
        let known = stands_known (Node node base) term.0 term.1 fits (λ pair e. absurd (cc)) in
        subst (StandsFor P row (Node node base))
        (one_known P (plain row) (plain_once row) (Node node base) term.0 (terms.compound name ts) known (structure node base name arguments ts at parts))
        term.1

    all_have : (rs : List Ref) (ts : Terms) → AllKnownAs P (plain row) rs ts → ((q : Ref) → Contains rs q → IsInRange P (length row) q) → (q : Ref)
        → Contains rs q → HasTerm P row q
    all_have rs ts no_parts fits q c = absurd (among_none q c)
    all_have rs ts (more_parts r t rest others first more) fits q c = elim (among_cases r q rest c) [
      | inl e ↦ subst (HasTerm P row) (sym e) (t, known_stands r t first (fits r (among_first r rest)))
      | inr later ↦ all_have rest others more (λ x k. fits x (among_more r x rest k)) q later
    ]
