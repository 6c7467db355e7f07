-- What no solution can have: a term that properly contains itself, and a word of a pair in a term.
use Rattle.std.proofs.Common.{ℕ, ◌+◌, ◌≡◌, ◌<◌, ◌≤◌, ◌⊎◌, true, false, pos, List, [], length, map, get_or, take, Some, refl, sym, ap, ◌∙◌, subst, inl, inr}
use Rattle.std.proofs.Common.{arith}
use Rattle.std.specs.Prelude.{Contains}
use Rattle.std.proofs.lemmas.Bool.{true≢false}
use Rattle.std.proofs.lemmas.Option.{slice_get-get_or}
use Rattle.and_model.specs.Terms.{Path, Term, Substitution, apply, variables_of}
use Rattle.and_model.specs.Solutions.{Solves}
use Rattle.and_model.specs.Store.{is_half}
use Rattle.and_model.specs.declared.numbers.NodeNo.{NodeNo}
use Rattle.and_model.specs.declared.reference.Ref.{Ref}
use Rattle.and_model.specs.declared.reference.Ref.TheVariants.{Cell, Node}
use Rattle.and_program.specs.Skeletons
use Rattle.and_program.specs.Skeletons.{Shape, term_list, nth, node_term, shape_term, terms_behind}
use Rattle.and_program.proofs.NodeTerms.{node_term_at}
use Rattle.and_cells.specs.Ranges.{NamedProgram, IsInRange, IsNoVariable, CanHold}
use Rattle.and_cells.specs.Rows.{IsSound, plain}
use Rattle.and_cells.specs.Seen.{word_at, IsSetTo, LeadsTo, here, onward}
use Rattle.and_cells.specs.Meaning
use Rattle.and_cells.specs.Meaning.{Holds, IsCircle, shallow_cells, equations_of}
use Rattle.and_laws.specs.Sizes.{size}
use Rattle.and_laws.proofs.Ordered.{contains_first, contains_cases, contains_none}
use Rattle.and_cells.specs.Joined.{value}
use Rattle.and_cell_laws.proofs.Joining.{size_of}
use Rattle.and_cell_laws.proofs.Structures.{in_frame, value_of_node}
use Rattle.and_cell_laws.proofs.Images.{contains_image, image_no_larger, images_no_larger}
use Rattle.and_cell_laws.proofs.Between.{set_agrees, set_names_no_half}

-- What holds a cell is no half.
pub holder_is_whole : (P : NamedProgram) (row : List Ref) (r : Ref) (cell : ℕ) → Holds P row r cell → is_half r ≡ false
holder_is_whole P row r cell (Meaning.here c) = refl
holder_is_whole P row r cell (Meaning.onward start q c set rest) = refl
holder_is_whole P row r cell (Meaning.inside node base v c at rest) = refl

-- What is put for a held cell is no larger than the value of the holder,
held_is_no_larger : (P : NamedProgram) (row : List Ref) (t : Substitution) (r : Ref) (cell : ℕ) → Solves t (equations_of P row) → Holds P row r cell
    → size (t [] cell) ≤ size_of (value P (word_at row) t r)
held_is_no_larger P row t r cell s (Meaning.here c) = omega arith
held_is_no_larger P row t r cell s (Meaning.onward start q c set rest) =
    let agree : size (t [] start) ≡ size_of (value P (word_at row) t q) = ap size_of (set_agrees P row t start q s set (holder_is_whole P row q c rest)) in
    omega (arith, held_is_no_larger P row t q c s rest)
held_is_no_larger P row t r cell s (Meaning.inside node base v c at rest) =
    let body : Term = node_term P.skeleton.nodes node.0 in
    let whole : size_of (value P (word_at row) t (Node node base)) ≡ size (apply (in_frame t base) body) =
    ap size_of (value_of_node P (word_at row) t node base) in
    omega (arith, held_is_no_larger P row t (Cell (base + 1 + v.1)) c s rest, image_no_larger (in_frame t base) body v at)

-- what is put for a variable of a node is smaller than what becomes of the node, unless the node is that variable
image_is_smaller : (s : Substitution) (ts : List Term) (shape : Shape) (v : Path × ℕ) → ((k : ℕ) → shape ≡ Skeletons.variable k → ⊥)
    → Contains (variables_of (shape_term ts shape)) v
    → size (s v.0 v.1) < size (apply s (shape_term ts shape))
image_is_smaller s ts (Skeletons.variable k) v no_variable h = absurd (no_variable k refl)
image_is_smaller s ts (Skeletons.number z) v no_variable h = absurd (contains_none v h)
image_is_smaller s ts (Skeletons.compound c ns) v no_variable h = omega (arith, images_no_larger s (term_list (map (nth ts) ns)) v h)

-- a node that is no variable has a term that is none
pub shape_is_no_variable : (P : NamedProgram) (node : ℕ) → IsNoVariable P node → node < length P.skeleton.nodes → (k : ℕ)
    → get_or P.skeleton.nodes node (Skeletons.number (pos 0)) ≡ Skeletons.variable k → ⊥
shape_is_no_variable P node no_variable there k e =
    no_variable k (slice_get-get_or P.skeleton.nodes node (Skeletons.number (pos 0)) there ∙ ap (λ (x : Shape). Some x) e)

-- and smaller, where the holder is a structure.
held_is_smaller : (P : NamedProgram) (row : List Ref) (t : Substitution) (r : Ref) (cell : ℕ) (node : NodeNo) (base : ℕ) → Solves t (equations_of P row)
    → IsInRange P (length row) (Node node base) → r ≡ Node node base → Holds P row r cell → size (t [] cell) < size_of (value P (word_at row) t r)
held_is_smaller P row t r cell node base s fits e (Meaning.here c) = absurd (cc)
held_is_smaller P row t r cell node base s fits e (Meaning.onward start q c set rest) = absurd (cc)
held_is_smaller P row t r cell node base s fits e (Meaning.inside node' base' v c at rest) =
    let same : node ≡ node' = cc in
    let nodes : List Shape = P.skeleton.nodes in
    let body : Term = node_term nodes node'.0 in
    let there : node'.0 < length nodes = subst (λ (n : NodeNo). n.0 < length nodes) same fits.0.there in
    let no_variable : IsNoVariable P node'.0 = subst (λ (n : NodeNo). IsNoVariable P n.0) same fits.1 in
    let none : Shape = Skeletons.number (pos 0) in
    let ts : List Term = terms_behind [] (take node'.0 nodes) in
    let shape : Shape = get_or nodes node'.0 none in
    let body_is : shape_term ts shape ≡ body = sym (node_term_at nodes node'.0 none there) in
    let z : Substitution = in_frame t base' in
    let Claim : Term → Type 0 = λ (x : Term). Contains (variables_of x) v → size (z v.0 v.1) < size (apply z x) in
    let smaller : Claim body = subst Claim body_is (image_is_smaller z ts shape v (shape_is_no_variable P node'.0 no_variable there)) in
    let whole : size_of (value P (word_at row) t (Node node' base')) ≡ size (apply z body) = ap size_of (value_of_node P (word_at row) t node' base') in
    omega (arith, held_is_no_larger P row t (Cell (base' + 1 + v.1)) c s rest, smaller at)

-- What leads to no half is none,
leads_whole : (row : List Ref) (r q : Ref) → LeadsTo (plain row) r q → is_half q ≡ false → is_half r ≡ false
leads_whole row r q (here x) whole = whole
leads_whole row r q (onward cell x y knows rest) whole = refl

-- and has its value.
pub leads_agree : (P : NamedProgram) (row : List Ref) (t : Substitution) (r q : Ref) → Solves t (equations_of P row)
    → LeadsTo (plain row) r q → is_half q ≡ false
    → value P (word_at row) t r ≡ value P (word_at row) t q
leads_agree P row t r q s (here x) whole = refl
leads_agree P row t r q s (onward cell x y knows rest) whole =
    set_agrees P row t cell x s knows (leads_whole row x y rest whole) ∙ leads_agree P row t x y s rest whole

-- Some word is set to what a cell leads to, if that is another reference.
pub leads_to_word : (row : List Ref) (r q : Ref) → LeadsTo (plain row) r q → (r ≡ q) ⊎ ((place : ℕ) × IsSetTo row place q)
leads_to_word row r q (here x) = inl refl
leads_to_word row r q (onward cell x y knows rest) = elim (leads_to_word row x y rest) [
  | inl e ↦ inr (cell, subst (λ (z : Ref). IsSetTo row cell z) e knows)
  | inr found ↦ inr found
]

-- A structure that a word is set to is in range.
pub structure_in_range : (P : NamedProgram) (row : List Ref) (place : ℕ) (node : NodeNo) (base : ℕ) → IsSound P row → IsSetTo row place (Node node base)
    → IsInRange P (length row) (Node node base)
structure_in_range P row place node base sound set = let fits : CanHold P (length row) place (word_at row place) =
    sound.fits place in subst (λ (r : Ref). CanHold P (length row) place r) set.0 fits

-- A cell has the value of the structure that it leads to, which is larger than all that it holds: so it does not hold the cell.
pub circles_have_no_solution : (P : NamedProgram) (row : List Ref) (cell : ℕ) (t : Substitution) → IsSound P row → IsCircle P row cell
    → Solves t (equations_of P row) → ⊥
circles_have_no_solution P row cell t sound circle s =
    let r : Ref = Node circle.node circle.base in
    let fits : IsInRange P (length row) r = elim (leads_to_word row (Cell cell) r circle.leads) [
      | inl e ↦ absurd (cc)
      | inr found ↦ structure_in_range P row found.0 circle.node circle.base sound found.1
    ] in
    let agree : size (t [] cell) ≡ size_of (value P (word_at row) t r) = ap size_of (leads_agree P row t (Cell cell) r s circle.leads refl) in
    let smaller : size (t [] cell) < size_of (value P (word_at row) t r) = held_is_smaller P row t r cell circle.node circle.base s fits refl circle.holds in
    absurd (omega arith)

-- Whatever names no half holds none.
holds_no_half : (P : NamedProgram) (row : List Ref) (t : Substitution) (r : Ref) (cell : ℕ) → Solves t (equations_of P row)
    → ((c : ℕ) → Contains (shallow_cells P r) c → is_half (word_at row c) ≡ false) → Holds P row r cell → is_half (word_at row cell) ≡ false
holds_no_half P row t r cell s names (Meaning.here c) = names c (contains_first c [])
holds_no_half P row t r cell s names (Meaning.onward start q c set rest) =
    holds_no_half P row t q c s (set_names_no_half P row t start q s set (holder_is_whole P row q c rest)) rest
holds_no_half P row t r cell s names (Meaning.inside node base v c at rest) =
    let named : Contains (shallow_cells P (Node node base)) (base + 1 + v.1) =
    contains_image (λ (x : Path × ℕ). base + 1 + x.1) (variables_of (node_term P.skeleton.nodes node.0)) v at in
    holds_no_half P row t (Cell (base + 1 + v.1)) c s (λ d h. elim (contains_cases (base + 1 + v.1) d [] h) [
      | inl e ↦ ap (λ (x : ℕ). is_half (word_at row x)) e ∙ names (base + 1 + v.1) named
      | inr i ↦ absurd (contains_none d i)
    ]) rest

-- So no word that is set, but to no half, holds a half.
pub halves_have_no_term : (P : NamedProgram) (row : List Ref) (place cell : ℕ) (r : Ref) (t : Substitution) → IsSound P row → IsSetTo row place r
    → is_half r ≡ false → Holds P row r cell
    → is_half (word_at row cell) ≡ true → Solves t (equations_of P row) → ⊥
halves_have_no_term P row place cell r t sound set whole holds half s =
    let no_half : is_half (word_at row cell) ≡ false = holds_no_half P row t r cell s (set_names_no_half P row t place r s set whole) holds in
    absurd (true≢false (sym half ∙ no_half))
