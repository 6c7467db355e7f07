-- A structure stands for a term where its parts do.
use Rattle.std.proofs.Common.{ℕ, ◌+◌, ◌≡◌, ◌⊎◌, List, [], ◌∷◌, length, map, refl, sym, ap, ◌∙◌, subst, inl, inr}
use Rattle.std.specs.Prelude.{Contains}
use Rattle.std.proofs.lemmas.Bool.{cases_eq}
use Rattle.std.proofs.lemmas.List.Elements.{Contains-append_cases}
use Rattle.and_model.specs.Terms
use Rattle.and_model.specs.Terms.{Path, Term, Terms, Substitution, variables_of, variables_in}
use Rattle.and_model.specs.declared.numbers.NodeNo.{NodeNo}
use Rattle.and_model.specs.declared.reference.Ref.{Ref}
use Rattle.and_model.specs.declared.reference.Ref.TheVariants.{Cell, Node}
use Rattle.and_program.specs.Skeletons
use Rattle.and_program.specs.Skeletons.{Shape, nth, node_term, shape_term, terms_behind, AllFall}
use Rattle.and_program.specs.Loaded.{shape_at}
use Rattle.and_program.specs.Shown.{arguments_in, resolved}
use Rattle.and_cells.specs.Ranges.{NamedProgram, IsInRange}
use Rattle.and_cells.specs.Meaning.{StandsFor, unbound, bound, structure, integer, cell_variable}
use Rattle.and_laws.proofs.Ordered.{contains_first, contains_more, contains_cases, contains_none}
use Rattle.and_cells.specs.Parts.{parts_of, part_at}
use Rattle.and_cells.specs.Solved.{HasTerm}
use Rattle.and_cell_laws.proofs.Structures.{node_term_shape}
use Rattle.and_cell_laws.proofs.Images.{contains_image}
use Rattle.and_cell_laws.proofs.Circles.{shape_is_no_variable}

-- A variable of the list has this number, or none has.
abbrev IsNumbered : List (Path × ℕ) → ℕ → Type 0
IsNumbered vs k = ((v : Path × ℕ) × Contains vs v × (v.1 ≡ k)) ⊎ ((v : Path × ℕ) → Contains vs v → v.1 ≡ k → ⊥)

-- which of the two it is
numbered : (vs : List (Path × ℕ)) (k : ℕ) → IsNumbered vs k
numbered [] k = inr (λ v h e. contains_none v h)
numbered (w ∷ vs) k = elim (cases_eq w.1 k) [
  | inl e ↦ inl (w, contains_first w vs, e)
  | inr other ↦ elim (numbered vs k) [
    | inl found ↦ inl (found.0, contains_more w found.0 vs found.1, found.2)
    | inr none ↦ inr (λ v h e. elim (contains_cases w v vs h) [ inl same ↦ other (ap (λ (x : Path × ℕ). x.1) (sym same) ∙ e) | inr i ↦ none v i e ])
  ]
]

-- The cells of these variables in the frame at that base stand for terms.
abbrev CellsHaveTerms : NamedProgram → List Ref → (base : ℕ) → List (Path × ℕ) → Type 0
CellsHaveTerms P row base vs = (v : Path × ℕ) → Contains vs v → HasTerm P row (Cell (base + 1 + v.1))

-- the term of the variable with this number
abbrev chosen : (P : NamedProgram) (row : List Ref) (base : ℕ) (vs : List (Path × ℕ)) → CellsHaveTerms P row base vs → (k : ℕ) → IsNumbered vs k → Term
chosen P row base vs has k (inl found) = let term = has found.0 found.1 in term.0
chosen P row base vs has k (inr none) = cell_variable k

-- it is what the cell of the variable stands for
chosen_stands : (P : NamedProgram) (row : List Ref) (base : ℕ) (vs : List (Path × ℕ)) (has : CellsHaveTerms P row base vs) (v : Path × ℕ)
    (d : IsNumbered vs v.1) → Contains vs v
    → StandsFor P row (Cell (base + 1 + v.1)) (chosen P row base vs has v.1 d)
chosen_stands P row base vs has v (inl found) h =
    let term : HasTerm P row (Cell (base + 1 + found.0.1)) = has found.0 found.1 in
    subst (λ (k : ℕ). StandsFor P row (Cell (base + 1 + k)) term.0) found.2 term.1
chosen_stands P row base vs has v (inr none) h = absurd (none v h refl)

-- A node has a term where the cells of its variables have.
pub node_has_term : (P : NamedProgram) (row : List Ref) (node : NodeNo) (base : ℕ)
    → ((v : Path × ℕ) → Contains (variables_of (node_term P.skeleton.nodes node.0)) v → HasTerm P row (Cell (base + 1 + v.1))) → HasTerm P row (Node node base)
node_has_term P row node base has =
    let vs : List (Path × ℕ) = variables_of (node_term P.skeleton.nodes node.0) in
    let s : Substitution = λ q k. chosen P row base vs has k (numbered vs k) in
    (Terms.apply s (node_term P.skeleton.nodes node.0), structure node base s (λ v c. chosen_stands P row base vs has v (numbered vs v.1) c))

-- The converse.
cells_of_node : (P : NamedProgram) (row : List Ref) (node : NodeNo) (base : ℕ) (r : Ref) (u : Term) → r ≡ Node node base → StandsFor P row r u
    → CellsHaveTerms P row base (variables_of (node_term P.skeleton.nodes node.0))
cells_of_node P row node base r u e (unbound cell below free) v c = absurd (cc)
cells_of_node P row node base r u e (bound cell q t set rest) v c = absurd (cc)
cells_of_node P row node base r u e (structure node' base' s all) v c =
    let same_node : node' ≡ node = cc in
    let same_base : base' ≡ base = cc in
    let at : Contains (variables_of (node_term P.skeleton.nodes node'.0)) v =
    subst (λ (n : NodeNo). Contains (variables_of (node_term P.skeleton.nodes n.0)) v) (sym same_node) c in
    subst (λ (b : ℕ). HasTerm P row (Cell (b + 1 + v.1))) same_base (s v.0 v.1, all v at)
cells_of_node P row node base r u e (integer pair) v c = absurd (cc)

-- where the node is found by its shape
cells_of_resolved : (P : NamedProgram) (row : List Ref) (ts : List Term) (s : Shape) (node : NodeNo) (base : ℕ)
    → node_term P.skeleton.nodes node.0 ≡ shape_term ts s
    → HasTerm P row (resolved s node base) → CellsHaveTerms P row base (variables_of (node_term P.skeleton.nodes node.0))
cells_of_resolved P row ts (Skeletons.variable k) node base e has v c =
    let at : Contains (([], k) ∷ []) v = subst (λ (x : Term). Contains (variables_of x) v) e c in
    elim (contains_cases ([], k) v [] at) [
      | inl is ↦ subst (λ (x : Path × ℕ). HasTerm P row (Cell (base + 1 + x.1))) (sym is) has
      | inr i ↦ absurd (contains_none v i)
    ]
cells_of_resolved P row ts (Skeletons.number z) node base e has v c = cells_of_node P row node base (Node node base) has.0 refl has.1 v c
cells_of_resolved P row ts (Skeletons.compound n ns) node base e has v c = cells_of_node P row node base (Node node base) has.0 refl has.1 v c

-- So it is of a part, which may be a variable.
cells_of_part : (P : NamedProgram) (row : List Ref) (base n : ℕ) → AllFall 0 P.skeleton.nodes → HasTerm P row (part_at P base n)
    → CellsHaveTerms P row base (variables_of (node_term P.skeleton.nodes n))
cells_of_part P row base n fall has =
    cells_of_resolved P row (terms_behind [] P.skeleton.nodes) (shape_at P.skeleton n) (record { 0 = n }) base (node_term_shape P.skeleton.nodes n fall) has

-- A variable of a list of terms is one of one of them.
variable_of_argument : (ts : List Term) (ns : List ℕ) (v : Path × ℕ) → Contains (variables_in (Skeletons.term_list (map (nth ts) ns))) v
    → (n : ℕ) × Contains ns n × Contains (variables_of (nth ts n)) v
variable_of_argument ts [] v h = absurd (contains_none v h)
variable_of_argument ts (n ∷ ns) v h = elim (Contains-append_cases (variables_of (nth ts n)) (variables_in (Skeletons.term_list (map (nth ts) ns))) v h) [
  | inl i ↦ (n, contains_first n ns, i)
  | inr i ↦ let found = variable_of_argument ts ns v i in (found.0, contains_more n found.0 ns found.1, found.2)
]

-- The cells of a shape's variables have terms where its arguments have.
cells_of_parts : (P : NamedProgram) (row : List Ref) (base : ℕ) (s : Shape) → AllFall 0 P.skeleton.nodes → ((k : ℕ) → s ≡ Skeletons.variable k → ⊥)
    → ((q : Ref) → Contains (map (part_at P base) (arguments_in s)) q → HasTerm P row q)
    → CellsHaveTerms P row base (variables_of (shape_term (terms_behind [] P.skeleton.nodes) s))
cells_of_parts P row base (Skeletons.variable k) fall no_variable has v c = absurd (no_variable k refl)
cells_of_parts P row base (Skeletons.number z) fall no_variable has v c = absurd (contains_none v c)
cells_of_parts P row base (Skeletons.compound name ns) fall no_variable has v c =
    let found : (n : ℕ) × Contains ns n × Contains (variables_of (node_term P.skeleton.nodes n)) v =
    variable_of_argument (terms_behind [] P.skeleton.nodes) ns v c in
    cells_of_part P row base found.0 fall (has (part_at P base found.0) (contains_image (part_at P base) ns found.0 found.1)) v found.2

-- A structure has a term where its parts have.
pub structure_has_term : (P : NamedProgram) (row : List Ref) (node : NodeNo) (base : ℕ) → AllFall 0 P.skeleton.nodes → IsInRange P (length row) (Node node base)
    → ((q : Ref) → Contains (parts_of P (Node node base)) q → HasTerm P row q) → HasTerm P row (Node node base)
structure_has_term P row node base fall fits has =
    let nodes : List Shape = P.skeleton.nodes in
    let shape : Shape = shape_at P.skeleton node.0 in
    let no_variable : (k : ℕ) → shape ≡ Skeletons.variable k → ⊥ = shape_is_no_variable P node.0 fits.1 fits.0.there in
    let cells : CellsHaveTerms P row base (variables_of (shape_term (terms_behind [] nodes) shape)) = cells_of_parts P row base shape fall no_variable has in
    node_has_term P row node base (subst (λ (x : Term). CellsHaveTerms P row base (variables_of x)) (sym (node_term_shape nodes node.0 fall)) cells)
