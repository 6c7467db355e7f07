-- What the value of an expression says of the term that it reads as.
use Rattle.std.proofs.Common.{ℕ, ℤ, zero, suc, ◌+◌, ◌≡◌, ◌≢◌, ◌<◌, true, true≢false, pos, List, [], ◌∷◌, length, map, ◌++◌, Option, Some, None, refl, sym, ap}
use Rattle.std.proofs.Common.{◌∙◌, subst, inl, inr, arith}
use Rattle.std.specs.Prelude.{Contains}
use Rattle.std.proofs.lemmas.Bool.{cases_lt}
use Rattle.std.proofs.lemmas.List.{get_or_past}
use Rattle.std.proofs.lemmas.Option.{none-some, slice_get-get_or}
use Rattle.and_model.specs.Terms
use Rattle.and_model.specs.Terms.{Path, Term, Terms, variables_of, variables_in, is_ground, are_ground, Substitution, apply, apply_all}
use Rattle.and_model.specs.Arithmetic.{value, values, operated}
use Rattle.and_model.specs.declared.numbers.NodeNo.{NodeNo}
use Rattle.and_model.specs.declared.reference.Ref.{Ref}
use Rattle.and_model.specs.declared.reference.Ref.TheVariants.{Free, Cell, Node, Number, Half}
use Rattle.and_program.specs.Skeletons
use Rattle.and_program.specs.Skeletons.{Shape, term_list, nth, shape_term, terms_behind, node_term, Falls, IsFalling, AllFall}
use Rattle.and_program.specs.Loaded.{shape_at}
use Rattle.and_program.specs.Shown.{resolved, arguments_in}
use Rattle.and_program.proofs.NodeTerms.{AllFall-at}
use Rattle.and_laws.proofs.Ordered.{contains_first, contains_more, contains_none}
use Rattle.and_laws.proofs.Substitutions.{and_left, and_right}
use Rattle.and_cells.specs.Ranges.{NamedProgram, IsNoVariable, CanHold}
use Rattle.and_cells.specs.Rows.{IsSound, plain}
use Rattle.and_cells.specs.Seen.{Seen, Knows, LeadsTo, here, onward, word_at}
use Rattle.and_cells.specs.Meaning as meaning
use Rattle.and_cells.specs.Meaning.{StandsFor, IsSettled, equations_of}
use Rattle.and_cells.specs.Parts.{part_at}
use Rattle.and_cell_laws.proofs.Structures.{node_term_shape}
use Rattle.and_value_laws.specs.Values.{Reaches, whole, set, part, KnownAs, AllKnownAs, unbound, bound, integer, literal, structure, no_parts, more_parts}
use Rattle.and_value_laws.specs.Values.{IsGround, HasValue, LacksValue, IsFirstFree}
use Rattle.and_value_laws.proofs.KnownTerms.{IsOnce, one_known}
use Rattle.and_branch_laws.specs.Running.{IsRead}
use Rattle.and_branch_laws.specs.Goals.{CanBeRead}
use Rattle.and_branch_laws.proofs.Readings.{read_term}
use Rattle.and_cells.specs.Solved.{AllHaveTerms}
use Rattle.and_cell_laws.proofs.Settling.{settled_rows_have_terms}
use Rattle.and_cell_laws.proofs.TermsOfRows.{rows_with_terms_are_solutions}
use Rattle.std.proofs.lemmas.List.Elements.{All-contains, Contains-append_left, Contains-append_right}

-- ---- A term with a value is ground

one_valued : (c : ℕ) (o : Option ℤ) (z : ℤ) → operated c (o ∷ []) ≡ Some z → (a : ℤ) × (o ≡ Some a)
one_valued c None z e = absurd (none-some z e)
one_valued c (Some a) z e = (a, refl)

two_valued : (c : ℕ) (o p : Option ℤ) (z : ℤ) → operated c (o ∷ p ∷ []) ≡ Some z → (a : ℤ) × (b : ℤ) × (o ≡ Some a) × (p ≡ Some b)
two_valued c None p z e = absurd (none-some z e)
two_valued c (Some a) None z e = absurd (none-some z e)
two_valued c (Some a) (Some b) z e = (a, b, refl, refl)

three_not : (c : ℕ) (o p q : Option ℤ) (os : List (Option ℤ)) (z : ℤ) → operated c (o ∷ p ∷ q ∷ os) ≡ Some z → ⊥
three_not c None p q os z e = none-some z e
three_not c (Some a) None q os z e = none-some z e
three_not c (Some a) (Some b) q os z e = none-some z e

mutual
  pub valued_ground : (t : Term) (z : ℤ) → value t ≡ Some z → is_ground t ≡ true
  valued_ground (Terms.variable q k) z e = absurd (none-some z e)
  valued_ground (Terms.number n) z e = refl
  valued_ground (Terms.compound c ts) z e = operands_ground c ts z e

  operands_ground : (c : ℕ) (ts : Terms) (z : ℤ) → operated c (values ts) ≡ Some z → are_ground ts ≡ true
  operands_ground c Terms.none z e = refl
  operands_ground c (Terms.more t Terms.none) z e =
      let (a, is) = one_valued c (value t) z e in
      let one : is_ground t ≡ true = valued_ground t a is in
      rw one refl
  operands_ground c (Terms.more t (Terms.more u Terms.none)) z e =
      let (a, b, is, other) = two_valued c (value t) (value u) z e in
      let one : is_ground t ≡ true = valued_ground t a is in
      let two : is_ground u ≡ true = valued_ground u b other in
      rw (one, two) refl
  operands_ground c (Terms.more t (Terms.more u (Terms.more v ts))) z e = absurd (three_not c (value t) (value u) (value v) (values ts) z e)

-- A ground term has no variables.
mutual
  ground_none : (t : Term) → is_ground t ≡ true → variables_of t ≡ []
  ground_none (Terms.variable q k) e = absurd (true≢false (sym e))
  ground_none (Terms.number z) e = refl
  ground_none (Terms.compound c ts) e = all_ground_none ts e

  all_ground_none : (ts : Terms) → are_ground ts ≡ true → variables_in ts ≡ []
  all_ground_none Terms.none e = refl
  all_ground_none (Terms.more t ts) e =
      ap (λ (vs : List (Path × ℕ)). vs ++ variables_in ts) (ground_none t (and_left (is_ground t) (are_ground ts) e))
      ∙ all_ground_none ts (and_right (is_ground t) (are_ground ts) e)

pub has_variable : (t : Term) (v : Path × ℕ) (vs : List (Path × ℕ)) → variables_of t ≡ v ∷ vs → is_ground t ≡ true → ⊥
has_variable t v vs e ground = let both : [] ≡ v ∷ vs = sym (ground_none t ground) ∙ e in cc

pub has_no_variable : (t : Term) → is_ground t ≡ true → (v : Path × ℕ) → Contains (variables_of t) v → ⊥
has_no_variable t ground v c = contains_none v (subst (λ (vs : List (Path × ℕ)). Contains vs v) (ground_none t ground) c)

-- ---- What is ground as far as is known

-- a chain from a cell that is not known to be set ends there
stuck : (s : Seen) (cell : ℕ) (r end : Ref) → ((q : Ref) → Knows s cell q → ⊥) → r ≡ Cell cell → LeadsTo s r end → end ≡ Cell cell
stuck s cell r end none e (here x) = e
stuck s cell r end none e (onward other q to knows rest) =
    let same : other ≡ cell = cc in
    absurd (none q (subst (λ (x : ℕ). Knows s x q) same knows))

module _ (P : NamedProgram) (s : Seen) (root : Ref) (ground : IsGround P s root) where
  mutual
    pub known_ground : (r : Ref) (t : Term) → KnownAs P s r t → Reaches P s root r → is_ground t ≡ true
    known_ground r t (unbound cell none) reaches =
        let (end, leads, no_cell) = ground.cells cell reaches in
        absurd (no_cell cell (stuck s cell (Cell cell) end none refl leads))
    known_ground r t (bound cell q u knows rest) reaches = known_ground q u rest (set cell q reaches knows)
    known_ground r t (integer pair high low a b) reaches = refl
    known_ground r t (literal node base z at) reaches = refl
    known_ground r t (structure node base name arguments ts at parts) reaches =
        parts_ground (map (part_at P base) arguments) ts parts
        (λ q c. part node base q reaches (subst (λ (x : Shape). Contains (map (part_at P base) (arguments_in x)) q) (sym at) c))

    parts_ground : (rs : List Ref) (ts : Terms) → AllKnownAs P s rs ts → ((q : Ref) → Contains rs q → Reaches P s root q)
        → are_ground ts ≡ true
    parts_ground rs ts no_parts reach = refl
    parts_ground rs ts (more_parts r t rest others first more) reach =
        let one : is_ground t ≡ true = known_ground r t first (reach r (contains_first r rest)) in
        let two : are_ground others ≡ true = parts_ground rest others more (λ q c. reach q (contains_more r q rest c)) in
        rw (one, two) refl

-- ---- What a row's cells stand for is known

-- the nodes of a structure come before it
shape_falls : (P : NamedProgram) (n c : ℕ) (ns : List ℕ) → AllFall 0 P.skeleton.nodes
    → shape_at P.skeleton n ≡ Skeletons.compound c ns → Falls n ns
shape_falls P n c ns fall at = elim (cases_lt n (length P.skeleton.nodes)) [
  | inl below ↦
      let falls : IsFalling (0 + n) (shape_at P.skeleton n) = AllFall-at 0 P.skeleton.nodes n (Skeletons.number (pos 0)) fall below in
      let e : 0 + n ≡ n = omega arith in
      let here : IsFalling n (shape_at P.skeleton n) = subst (λ (m : ℕ). IsFalling m (shape_at P.skeleton n)) e falls in
      let same : IsFalling n (Skeletons.compound c ns) = subst (IsFalling n) at here in
      same
  | inr past ↦ let both = sym (get_or_past P.skeleton.nodes n (Skeletons.number (pos 0)) past) ∙ at in absurd cc
]

module _ (P : NamedProgram) (fall : AllFall 0 P.skeleton.nodes) (s : Seen) (base : ℕ) (z : Substitution) where
  abbrev term : ℕ → Term
  term n = node_term P.skeleton.nodes n

  -- the cells of these variables are known as what is put for them
  abbrev AreKnown : List (Path × ℕ) → Type 0
  AreKnown vs = (v : Path × ℕ) → Contains vs v → KnownAs P s (Cell (base + 1 + v.1)) (z v.0 v.1)

  abbrev Claim : ℕ → Type 0
  Claim fuel =
      (n : ℕ) → n < fuel → AreKnown (variables_of (node_term P.skeleton.nodes n))
      → KnownAs P s (part_at P base n) (apply z (node_term P.skeleton.nodes n))

  all_parts : (fuel n : ℕ) → Claim fuel → n < suc fuel → (ns : List ℕ) → Falls n ns
      → AreKnown (variables_in (term_list (map (nth (terms_behind [] P.skeleton.nodes)) ns)))
      → AllKnownAs P s (map (part_at P base) ns) (apply_all z (term_list (map (nth (terms_behind [] P.skeleton.nodes)) ns)))
  all_parts fuel n below low [] falls known = no_parts
  all_parts fuel n below low (m ∷ ns) falls known =
      let rest : Terms = term_list (map (nth (terms_behind [] P.skeleton.nodes)) ns) in
      more_parts (part_at P base m) (apply z (term m)) (map (part_at P base) ns) (apply_all z rest)
      (below m (let f = falls.0 in omega arith) (λ v c. known v (Contains-append_left (variables_of (term m)) (variables_in rest) v c)))
      (all_parts fuel n below low ns falls.1 (λ v c. known v (Contains-append_right (variables_of (term m)) (variables_in rest) v c)))

  by_shape : (fuel n : ℕ) → Claim fuel → n < suc fuel → (shape : Shape) → shape_at P.skeleton n ≡ shape
      → AreKnown (variables_of (shape_term (terms_behind [] P.skeleton.nodes) shape))
      → KnownAs P s (resolved shape (record { 0 = n }) base) (apply z (shape_term (terms_behind [] P.skeleton.nodes) shape))
  by_shape fuel n below low (Skeletons.variable k) at known = known ([], k) (contains_first ([], k) [])
  by_shape fuel n below low (Skeletons.number y) at known = literal (record { 0 = n }) base y at
  by_shape fuel n below low (Skeletons.compound c ns) at known =
      structure (record { 0 = n }) base c ns (apply_all z (term_list (map (nth (terms_behind [] P.skeleton.nodes)) ns))) at
      (all_parts fuel n below low ns (shape_falls P n c ns fall at) known)

  claim : (fuel : ℕ) → Claim fuel
  claim zero n low known = absurd (omega arith)
  claim (suc fuel) n low known =
      let is : term n ≡ shape_term (terms_behind [] P.skeleton.nodes) (shape_at P.skeleton n) = node_term_shape P.skeleton.nodes n fall in
      subst (λ (t : Term). KnownAs P s (part_at P base n) (apply z t)) (sym is)
      (by_shape fuel n (claim fuel) low (shape_at P.skeleton n) refl (subst (λ (t : Term). AreKnown (variables_of t)) is known))

  -- A node is known as its term where the cells of its variables are.
  pub node_known : (n : ℕ) → ((v : Path × ℕ) → Contains (variables_of (node_term P.skeleton.nodes n)) v
      → KnownAs P s (Cell (base + 1 + v.1)) (z v.0 v.1))
      → KnownAs P s (part_at P base n) (apply z (node_term P.skeleton.nodes n))
  node_known n known = claim (suc n) n (omega arith) known

-- what a word of a sound row may be: no variable of the skeleton, and a number that was written
abbrev IsKnowable : NamedProgram → List Ref → Ref → Type 0
IsKnowable P row Free = Unit {0}
IsKnowable P row (Cell cell) = Unit {0}
IsKnowable P row (Node node base) = IsNoVariable P node.0
IsKnowable P row (Number pair) = (word_at row pair ≢ Free) × (word_at row (suc pair) ≢ Free)
IsKnowable P row (Half bits) = Unit {0}

knowable : (P : NamedProgram) (row : List Ref) (place : ℕ) (r : Ref) → IsSound P row → word_at row place ≡ r → IsKnowable P row r
knowable P row place Free sound e = tt
knowable P row place (Cell cell) sound e = tt
knowable P row place (Node node base) sound e =
    let fits : CanHold P (length row) place (Node node base) = subst (λ (x : Ref). CanHold P (length row) place x) e (sound.fits place) in
    fits.1
knowable P row place (Number pair) sound e = sound.written place pair e
knowable P row place (Half bits) sound e = tt

-- a node that is no variable is found at itself
found_itself : (P : NamedProgram) (node : NodeNo) (base : ℕ) (shape : Shape) → shape_at P.skeleton node.0 ≡ shape → IsNoVariable P node.0
    → resolved shape (record { 0 = node.0 }) base ≡ Node node base
found_itself P node base (Skeletons.variable k) at none = elim (cases_lt node.0 (length P.skeleton.nodes)) [
  | inl below ↦ absurd (none k (slice_get-get_or P.skeleton.nodes node.0 (Skeletons.number (pos 0)) below ∙ ap (λ (x : Shape). Some x) at))
  | inr past ↦ let both = sym (get_or_past P.skeleton.nodes node.0 (Skeletons.number (pos 0)) past) ∙ at in absurd cc
]
found_itself P node base (Skeletons.number z) at none = refl
found_itself P node base (Skeletons.compound c ns) at none = refl

module _ (P : NamedProgram) (fall : AllFall 0 P.skeleton.nodes) (row : List Ref) (sound : IsSound P row) where
  stands_known : (r : Ref) (t : Term) → StandsFor P row r t → IsKnowable P row r → KnownAs P (plain row) r t
  stands_known r t (meaning.unbound cell below free) can = unbound cell (λ q knows. knows.1 (sym knows.0 ∙ free))
  stands_known r t (meaning.bound cell q u is rest) can = bound cell q u is (stands_known q u rest (knowable P row cell q sound is.0))
  stands_known r t (meaning.structure node base z all) can =
      subst (λ (x : Ref). KnownAs P (plain row) x (apply z (node_term P.skeleton.nodes node.0)))
      (found_itself P node base (shape_at P.skeleton node.0) refl can)
      (node_known P fall (plain row) base z node.0 (λ v c. stands_known (Cell (base + 1 + v.1)) (z v.0 v.1) (all v c) tt))
  stands_known r t (meaning.integer pair) can = integer pair (word_at row pair) (word_at row (suc pair)) (refl, can.0) (refl, can.1)

  -- What a node reads as, it is known as.
  pub read_known_as : (base n : ℕ) (u : Term) → IsRead P row base (node_term P.skeleton.nodes n) u
      → KnownAs P (plain row) (part_at P base n) u
  read_known_as base n u r =
      subst (λ (t : Term). KnownAs P (plain row) (part_at P base n) t) (sym r.reads)
      (node_known P fall (plain row) base r.values n (λ v c. stands_known (Cell (base + 1 + v.1)) (r.values v.0 v.1) (r.cells v c) tt))

  -- ---- What the answers say

  known_once : IsOnce (plain row)
  known_once place q r a b = sym a.0 ∙ b.0

  module _ (base n : ℕ) (can : CanBeRead P row base n) (settled : IsSettled P row) where
    abbrev node : Term
    node = node_term P.skeleton.nodes n

    -- in a settled row the node reads as some term
    some_reading : (u : Term) × IsRead P row base node u
    some_reading =
        let all : AllHaveTerms P row = (settled_rows_have_terms P row sound).0 settled in
        let g = rows_with_terms_are_solutions P row sound all in (
          apply (λ q k. g.solution [] (base + 1 + k)) node,
          read_term P row (equations_of P row) g base node (λ v c. (
            All-contains (λ (v : Path × ℕ). base + 1 + v.1 < length row) (variables_of node) v can.in_range.cells c,
            can.whole v c,
          )),
        )

    pub number_side : (y : ℤ) → HasValue P (plain row) (part_at P base n) y
        → (u : Term) × IsRead P row base node u × (is_ground u ≡ true) × (value u ≡ Some y)
    number_side y (t, known, valued) =
        let (u, read) = some_reading in
        let same : t ≡ u = one_known P (plain row) known_once (part_at P base n) t u known (read_known_as base n u read) in
        let valued_so : value u ≡ Some y = ap value (sym same) ∙ valued in
        (u, read, valued_ground u y valued_so, valued_so)

    pub no_value_side : LacksValue P (plain row) (part_at P base n)
        → (u : Term) × IsRead P row base node u × (is_ground u ≡ true) × (value u ≡ None)
    no_value_side (ground, lacks) =
        let (u, read) = some_reading in
        let known : KnownAs P (plain row) (part_at P base n) u = read_known_as base n u read in
        let is = known_ground P (plain row) (part_at P base n) ground (part_at P base n) u known (whole (part_at P base n) refl) in
        (u, read, is, lacks u known)

    -- the cell that was found free is a variable of what the node reads as
    pub waiting_variable : (cell : ℕ) → IsFirstFree P (plain row) (part_at P base n) cell
        → (u : Term) × IsRead P row base node u × Contains (variables_of u) ([], cell)
    waiting_variable cell first =
        let (u, read) = some_reading in
        let (others, is) = first u (read_known_as base n u read) in
        (u, read, subst (λ (vs : List (Path × ℕ)). Contains vs ([], cell)) (sym is) (contains_first ([], cell) others))

    pub waiting_side : (cell : ℕ) → IsFirstFree P (plain row) (part_at P base n) cell → (u : Term) → IsRead P row base node u
        → is_ground u ≡ true → ⊥
    waiting_side cell first u read ground =
        let (others, is) = first u (read_known_as base n u read) in
        has_variable u ([], cell) others is ground
