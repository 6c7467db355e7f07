-- The parts of structures: their variables, where they are, and that they fall.
use Rattle.std.proofs.Common.{ℕ, suc, ◌≡◌, ◌≢◌, ◌<◌, ◌+◌, pos, ◌⊎◌, inl, inr, List, [], ◌∷◌, map, length, get_or, Some, None, refl, ap, sym, subst, ◌∙◌}
use Rattle.std.proofs.Common.{arith, false}
use Rattle.std.specs.Prelude.{Contains, Option}
use Rattle.std.proofs.lemmas.Option.{slice_get-get_or}
use Rattle.std.proofs.lemmas.List.Elements.{All-contains, All-from_get_or, Contains-get_or, Contains-append_left, Contains-append_right, Contains-append_cases}
use Rattle.and_model.specs.Terms.{Path, Term, variables_of, variables_in}
use Rattle.and_model.specs.Store.{is_half}
use Rattle.and_model.specs.declared.numbers.NodeNo.{NodeNo}
use Rattle.and_model.specs.declared.reference.Ref.{Ref}
use Rattle.and_model.specs.declared.reference.Ref.TheVariants.{Free, Cell, Node, Number, Half}
use Rattle.and_program.specs.Skeletons
use Rattle.and_program.specs.Skeletons.{Shape, term_list, nth, shape_term, terms_behind, node_term, Falls, IsFalling, AllFall}
use Rattle.and_program.specs.Loaded.{shape_at, arguments_at}
use Rattle.and_program.specs.Shown.{arguments_in, resolved}
use Rattle.and_program.proofs.NodeTerms.{AllFall-at, node_term_whole}
use Rattle.and_cells.specs.Ranges.{NamedProgram, IsNoVariable, IsInRange, CanHold}
use Rattle.and_cells.specs.Rows.{IsSound}
use Rattle.and_cells.specs.Meaning.{Holds, here, onward, inside}
use Rattle.and_cells.specs.Parts.{part_at, parts_of}
use Rattle.and_cells.proofs.Among.{among_none, among_first, among_more, among_cases, map_among}
use Rattle.and_circles.specs.Walks.{IsStep, height}

-- a variable of a term, by its path and number, and those of the term of a node
abbrev pub Variable : Type 0
Variable = Path × ℕ

abbrev pub variables_at : List Shape → ℕ → List Variable
variables_at ss n = variables_of (node_term ss n)

-- what is among arguments that fall is below their node
falls_below : (n : ℕ) (ms : List ℕ) (m : ℕ) → Falls n ms → Contains ms m → m < n
falls_below n [] m falls c = absurd (among_none m c)
falls_below n (k ∷ ms) m falls c = elim (among_cases k m ms c) [
  | inl e ↦ subst (λ (a : ℕ). a < n) (sym e) falls.0
  | inr later ↦ falls_below n ms m falls.1 later
]

-- a term of a list has its variables in the list
arguments_has : (f : ℕ → Term) (ms : List ℕ) (m : ℕ) (v : Variable) → Contains ms m → Contains (variables_of (f m)) v
    → Contains (variables_in (term_list (map f ms))) v
arguments_has f [] m v c in_part = absurd (among_none m c)
arguments_has f (k ∷ ms) m v c in_part = elim (among_cases k m ms c) [
  | inl e ↦ Contains-append_left (variables_of (f k)) (variables_in (term_list (map f ms))) v
      (subst (λ (a : ℕ). Contains (variables_of (f a)) v) e in_part)
  | inr later ↦ Contains-append_right (variables_of (f k)) (variables_in (term_list (map f ms))) v (arguments_has f ms m v later in_part)
]

-- and each variable of a list of terms is in one of them
arguments_gives : (f : ℕ → Term) (ms : List ℕ) (v : Variable) → Contains (variables_in (term_list (map f ms))) v
    → (m : ℕ) × Contains ms m × Contains (variables_of (f m)) v
arguments_gives f [] v c = absurd (among_none v c)
arguments_gives f (k ∷ ms) v c = elim (Contains-append_cases (variables_of (f k)) (variables_in (term_list (map f ms))) v c) [
  | inl first ↦ (k, among_first k ms, first)
  | inr later ↦ let w : (m : ℕ) × Contains ms m × Contains (variables_of (f m)) v = arguments_gives f ms v later in (w.0, among_more k w.0 ms w.1, w.2)
]

module _ (ss : List Shape) (fall : AllFall 0 ss) where
  -- the term of a node by its shape
  term_at : (n : ℕ) → n < length ss → node_term ss n ≡ shape_term (terms_behind [] ss) (get_or ss n (Skeletons.number (pos 0)))
  term_at n there = node_term_whole ss n (Skeletons.number (pos 0)) fall there

  -- the arguments of a node fall
  falls_at : (n : ℕ) → n < length ss → IsFalling n (get_or ss n (Skeletons.number (pos 0)))
  falls_at n there = let e : 0 + n ≡ n =
      omega arith in subst (λ (m : ℕ). IsFalling m (get_or ss n (Skeletons.number (pos 0)))) e (AllFall-at 0 ss n (Skeletons.number (pos 0)) fall there)

  -- an argument comes before its node
  argument_falls : (n m : ℕ) (s : Shape) → IsFalling n s → Contains (arguments_in s) m → m < n
  argument_falls n m (Skeletons.variable k) falls c = absurd (among_none m c)
  argument_falls n m (Skeletons.number z) falls c = absurd (among_none m c)
  argument_falls n m (Skeletons.compound name ms) falls c = falls_below n ms m falls c

  -- so it is of the arguments at a node
  pub falls : (n m : ℕ) → n < length ss → Contains (arguments_in (get_or ss n (Skeletons.number (pos 0)))) m → m < n
  falls n m there c = argument_falls n m (get_or ss n (Skeletons.number (pos 0))) (falls_at n there) c

  -- what an argument's variables are, those of the shape are
  shape_has : (s : Shape) (m : ℕ) (v : Variable) → Contains (arguments_in s) m → Contains (variables_at ss m) v
      → Contains (variables_of (shape_term (terms_behind [] ss) s)) v
  shape_has (Skeletons.variable k) m v c in_part = absurd (among_none m c)
  shape_has (Skeletons.number z) m v c in_part = absurd (among_none m c)
  shape_has (Skeletons.compound name ms) m v c in_part = arguments_has (nth (terms_behind [] ss)) ms m v c in_part

  -- what an argument's variables are, the node's are
  pub has_variables : (n m : ℕ) (v : Variable) → n < length ss → Contains (arguments_in (get_or ss n (Skeletons.number (pos 0)))) m
      → Contains (variables_at ss m) v → Contains (variables_at ss n) v
  has_variables n m v there c in_part =
      subst (λ (t : Term). Contains (variables_of t) v) (sym (term_at n there)) (shape_has (get_or ss n (Skeletons.number (pos 0))) m v c in_part)

  -- each variable of a shape that is none is an argument's
  shape_gives : (s : Shape) (v : Variable) → ((k : ℕ) → s ≢ Skeletons.variable k) → Contains (variables_of (shape_term (terms_behind [] ss) s)) v
      → (m : ℕ) × Contains (arguments_in s) m × Contains (variables_at ss m) v
  shape_gives (Skeletons.variable k) v apart c = absurd (apart k refl)
  shape_gives (Skeletons.number z) v apart c = absurd (among_none v c)
  shape_gives (Skeletons.compound name ms) v apart c = arguments_gives (nth (terms_behind [] ss)) ms v c

  -- and each variable of a node that is none is an argument's
  pub gives_variables : (n : ℕ) (v : Variable) → n < length ss → ((k : ℕ) → get_or ss n (Skeletons.number (pos 0)) ≢ Skeletons.variable k)
      → Contains (variables_at ss n) v
      → (m : ℕ) × Contains (arguments_in (get_or ss n (Skeletons.number (pos 0)))) m × Contains (variables_at ss m) v
  gives_variables n v there apart c =
      shape_gives (get_or ss n (Skeletons.number (pos 0))) v apart (subst (λ (t : Term). Contains (variables_of t) v) (term_at n there) c)

  -- the variable of a node that is one
  pub own_variable : (n k : ℕ) → n < length ss → get_or ss n (Skeletons.number (pos 0)) ≡ Skeletons.variable k → variables_at ss n ≡ ([], k) ∷ []
  own_variable n k there is = ap variables_of (term_at n there) ∙ ap (λ (s : Shape). variables_of (shape_term (terms_behind [] ss) s)) is

-- a node is a variable, or none
pub shape_cases : (s : Shape) → ((k : ℕ) × (s ≡ Skeletons.variable k)) ⊎ ((k : ℕ) → s ≢ Skeletons.variable k)
shape_cases (Skeletons.variable k) = inl (k, refl)
shape_cases (Skeletons.number z) = inr (λ k e. cc)
shape_cases (Skeletons.compound name ms) = inr (λ k e. cc)

-- a part is the cell of a variable, or a structure in the same frame
pub resolved_cases : (s : Shape) (node : NodeNo) (base : ℕ)
    → ((k : ℕ) × (s ≡ Skeletons.variable k) × (resolved s node base ≡ Cell (base + 1 + k)))
    ⊎ (((k : ℕ) → s ≢ Skeletons.variable k) × (resolved s node base ≡ Node node base))
resolved_cases (Skeletons.variable k) node base = inl (k, refl, refl)
resolved_cases (Skeletons.number z) node base = inr ((λ k e. cc), refl)
resolved_cases (Skeletons.compound name ms) node base = inr ((λ k e. cc), refl)

module _ (P : NamedProgram) (fall : AllFall 0 P.skeleton.nodes) where
  -- What a part is: the cell of a variable of the structure, or the structure of an argument that is no variable.
  pub data IsPart (node base : ℕ) (to : Ref) : Type 0 where
    at_variable : (k : ℕ) → to ≡ Cell (base + 1 + k) → Contains (variables_at P.skeleton.nodes node) ([], k) → IsPart node base to
    at_node : (m : NodeNo) → to ≡ Node m base → m.0 < node → IsNoVariable P m.0
        → ((v : Variable) → Contains (variables_at P.skeleton.nodes m.0) v → Contains (variables_at P.skeleton.nodes node) v) → IsPart node base to

  -- a shape that is no variable, as rows in range say it
  pub no_variable : (m : ℕ) → m < length P.skeleton.nodes → ((k : ℕ) → shape_at P.skeleton m ≢ Skeletons.variable k) → IsNoVariable P m
  no_variable m there apart k e =
      apart k (ap (λ (o : Option Shape). elim o [ None ↦ shape_at P.skeleton m | Some s ↦ s ])
      (sym (slice_get-get_or P.skeleton.nodes m (Skeletons.number (pos 0)) there) ∙ e))

  -- what a part of a structure is
  pub part_is : (node : NodeNo) (base : ℕ) (to : Ref) → node.0 < length P.skeleton.nodes → Contains (parts_of P (Node node base)) to → IsPart node.0 base to
  part_is node base to there c = by_argument (map_among (part_at P base) to (arguments_at P.skeleton node.0) c)
    where
      by_shape : (m : ℕ) → Contains (arguments_at P.skeleton node.0) m → m < node.0 → part_at P base m ≡ to
          → ((k : ℕ) × (shape_at P.skeleton m ≡ Skeletons.variable k) × (part_at P base m ≡ Cell (base + 1 + k)))
          ⊎ (((k : ℕ) → shape_at P.skeleton m ≢ Skeletons.variable k) × (part_at P base m ≡ Node (record { 0 = m }) base))
          → IsPart node.0 base to
      by_shape m argument below is (inl variable) =
          at_variable variable.0 (sym is ∙ variable.2)
          (has_variables P.skeleton.nodes fall node.0 m ([], variable.0) there argument
          (subst (λ (vs : List Variable). Contains vs ([], variable.0)) (sym (own_variable P.skeleton.nodes fall m variable.0 (omega arith) variable.1))
          (among_first ([], variable.0) [])))
      by_shape m argument below is (inr other) =
          at_node (record { 0 = m }) (sym is ∙ other.1) below (no_variable m (omega arith) other.0)
          (λ v in_part. has_variables P.skeleton.nodes fall node.0 m v there argument in_part)

      by_argument : (m : ℕ) × Contains (arguments_at P.skeleton node.0) m × (part_at P base m ≡ to) → IsPart node.0 base to
      by_argument w = by_shape w.0 w.1 (falls P.skeleton.nodes fall node.0 w.0 there w.1) w.2
          (resolved_cases (shape_at P.skeleton w.0) (record { 0 = w.0 }) base)

  -- where the part of a structure in range is in range, and comes before it
  pub part_in_range : (words : ℕ) (node : NodeNo) (base : ℕ) (to : Ref) → IsInRange P words (Node node base) → Contains (parts_of P (Node node base)) to
      → IsInRange P words to
  part_in_range words node base to fits c = by_kind (part_is node base to fits.0.there c)
    where
      holds_at : (v : Variable) → Contains (variables_at P.skeleton.nodes node.0) v → base + 1 + v.1 < words
      holds_at v in_term = All-contains (λ (u : Variable). base + 1 + u.1 < words) (variables_at P.skeleton.nodes node.0) v fits.0.cells in_term

      by_kind : IsPart node.0 base to → IsInRange P words to
      by_kind (at_variable k is in_term) = subst (IsInRange P words) (sym is) (holds_at ([], k) in_term)
      by_kind (at_node m is below none has) = subst (IsInRange P words) (sym is) (
        record {
          there = omega (arith, fits.0.there);
          nameable = omega (arith, fits.0.nameable);
          base_below = fits.0.base_below;
          cells = All-from_get_or (λ (u : Variable). base + 1 + u.1 < words) (variables_at P.skeleton.nodes m.0) ([], 0)
              (λ i below_length. holds_at (get_or (variables_at P.skeleton.nodes m.0) i ([], 0))
              (has (get_or (variables_at P.skeleton.nodes m.0) i ([], 0)) (Contains-get_or (variables_at P.skeleton.nodes m.0) i ([], 0) below_length)));
        },
        none,
      )

-- what a structure holds, the cell of one of its variables holds
holds_inside : (P : NamedProgram) (row : List Ref) (r : Ref) (c : ℕ) → Holds P row r c → (node : NodeNo) (base : ℕ) → r ≡ Node node base
    → (v : Variable) × Contains (variables_at P.skeleton.nodes node.0) v × Holds P row (Cell (base + 1 + v.1)) c
holds_inside P row r c (here cell) node base e = absurd (cc)
holds_inside P row r c (onward start w cell is_set rest) node base e = absurd (cc)
holds_inside P row r c (inside other frame v cell in_term rest) node base e =
    let same_node : other ≡ node = cc in
    let same_base : frame ≡ base = cc in (
      v,
      subst (λ (n : NodeNo). Contains (variables_at P.skeleton.nodes n.0) v) same_node in_term,
      subst (λ (b : ℕ). Holds P row (Cell (b + 1 + v.1)) cell) same_base rest,
    )

module _ (P : NamedProgram) (fall : AllFall 0 P.skeleton.nodes) (row : List Ref) where
  -- a step from a structure leads down
  pub part_is_lower : (node : NodeNo) (base : ℕ) (to : Ref) → node.0 < length P.skeleton.nodes → Contains (parts_of P (Node node base)) to
      → height to < suc node.0
  part_is_lower node base to there c = by_kind (part_is P fall node base to there c)
    where
      by_kind : IsPart P fall node.0 base to → height to < suc node.0
      by_kind (at_variable k is in_term) = omega (arith, ap height is)
      by_kind (at_node m is below none has) = omega (arith, ap height is)

  -- what a part holds, the structure holds
  part_holds : (node : NodeNo) (base : ℕ) (to : Ref) (c : ℕ) → IsPart P fall node.0 base to → Holds P row to c → Holds P row (Node node base) c
  part_holds node base to c (at_variable k is in_term) holds = inside node base ([], k) c in_term (subst (λ (r : Ref). Holds P row r c) is holds)
  part_holds node base to c (at_node m is below none has) holds =
      let w : (v : Variable) × Contains (variables_at P.skeleton.nodes m.0) v × Holds P row (Cell (base + 1 + v.1)) c =
      holds_inside P row to c holds m base is in
      inside node base w.0 c (has w.0 w.1) w.2

  -- what a step leads to holds, is held
  pub step_holds : (from to : Ref) (c : ℕ) → IsInRange P (length row) from → IsStep P row from to → Holds P row to c → Holds P row from c
  step_holds Free to c fits step holds = absurd step
  step_holds (Cell cell) to c fits step holds = onward cell to c step holds
  step_holds (Node node base) to c fits step holds = part_holds node base to c (part_is P fall node base to fits.0.there step) holds
  step_holds (Number pair) to c fits step holds = absurd step
  step_holds (Half bits) to c fits step holds = absurd step

  -- the word of a cell is in range, unless it is free or a half
  word_in_range : (cell : ℕ) (w : Ref) → cell < length row → CanHold P (length row) cell w → w ≢ Free → is_half w ≡ false → IsInRange P (length row) w
  word_in_range cell Free below fits is_set whole = absurd (is_set refl)
  word_in_range cell (Cell other) below fits is_set whole = omega arith
  word_in_range cell (Node node base) below fits is_set whole = fits
  word_in_range cell (Number pair) below fits is_set whole = fits
  word_in_range cell (Half bits) below fits is_set whole = absurd (cc)

  -- in a sound row a step leads to what is in range, unless it leads to a half
  pub step_in_range : IsSound P row → (from to : Ref) → IsInRange P (length row) from → IsStep P row from to → is_half to ≡ false → IsInRange P (length row) to
  step_in_range sound Free to fits step whole = absurd step
  step_in_range sound (Cell cell) to fits step whole = word_in_range cell to fits (subst (CanHold P (length row) cell) step.0 (sound.fits cell)) step.1 whole
  step_in_range sound (Node node base) to fits step whole = part_in_range P fall (length row) node base to fits step
  step_in_range sound (Number pair) to fits step whole = absurd step
  step_in_range sound (Half bits) to fits step whole = absurd step
