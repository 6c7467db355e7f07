-- The parts of structures: their terms, their cells and their ranges.
use Rattle.std.proofs.Common.{ℕ, suc, ◌+◌, ◌≡◌, List, [], ◌∷◌, length, map, refl, sym, ap, subst, ◌∙◌, inl, inr, arith}
use Rattle.std.specs.Prelude.{Contains}
use Rattle.std.proofs.lemmas.Option.{same_Some}
use Rattle.std.proofs.lemmas.List.Elements.{Contains-append_left, Contains-append_right}
use Rattle.and_model.specs.Terms
use Rattle.and_model.specs.Terms.{Path, Term, Terms, Substitution, variables_of, variables_in}
use Rattle.and_model.specs.declared.numbers.NodeNo.{NodeNo}
use Rattle.and_model.specs.declared.reference.Ref.{Ref}
use Rattle.and_model.specs.declared.reference.Ref.TheVariants.{Free, Cell, Node, Number, Half}
use Rattle.and_program.specs.Skeletons
use Rattle.and_program.specs.Skeletons.{Shape, term_list, nth, node_term, shape_term, terms_behind, Falls, IsFalling, AllFall}
use Rattle.and_program.specs.Loaded.{shape_at, arguments_at}
use Rattle.and_program.specs.Shown.{arguments_in, resolved}
use Rattle.and_cells.specs.Ranges.{NamedProgram, IsInRange}
use Rattle.and_cells.specs.Seen.{Seen, IsWrittenIfNumber}
use Rattle.and_cells.specs.Meaning.{Words, shallow_cells}
use Rattle.and_laws.proofs.Ordered.{contains_first, contains_more, contains_cases, contains_none}
use Rattle.and_cells.specs.Parts.{IsStructure, parts_of, part_at}
use Rattle.and_cells.specs.Joined.{Joined, AllJoined, none, more}
use Rattle.and_circles.proofs.Parts
use Rattle.and_cell_laws.proofs.Structures.{node_term_shape, HaveValues, value_of_structure, shape_of_structure}
use Rattle.and_cell_laws.proofs.Images.{contains_image, contains_origin}
use Rattle.and_unify.specs.declared.pairs.Pair.{Pair}
use Rattle.and_unify.specs.Turns.{pairs_of}
use Rattle.and_unify.proofs.TurnAgree.{IsWhole, Agree, PairAgrees}

-- the cells of these variables in the frame at that base
abbrev cells_at : ℕ → List (Path × ℕ) → List ℕ
cells_at base vs = map (λ (v : Path × ℕ). base + 1 + v.1) vs

-- the cells of a node where it is found
cells_of_resolved : (P : NamedProgram) (ts : List Term) (s : Shape) (node : NodeNo) (base : ℕ) → node_term P.skeleton.nodes node.0 ≡ shape_term ts s
    → shallow_cells P (resolved s node base) ≡ cells_at base (variables_of (node_term P.skeleton.nodes node.0))
cells_of_resolved P ts (Skeletons.variable k) node base e = ap (λ (u : Term). cells_at base (variables_of u)) (sym e)
cells_of_resolved P ts (Skeletons.number z) node base e = refl
cells_of_resolved P ts (Skeletons.compound c ns) node base e = refl

-- the cells of a part, which may be a variable
cells_of_part : (P : NamedProgram) (base n : ℕ) → AllFall 0 P.skeleton.nodes
    → shallow_cells P (part_at P base n) ≡ cells_at base (variables_of (node_term P.skeleton.nodes n))
cells_of_part P base n fall =
    cells_of_resolved P (terms_behind [] P.skeleton.nodes) (shape_at P.skeleton n) (record { 0 = n }) base (node_term_shape P.skeleton.nodes n fall)

-- the variables of an argument are among those of all
variables_among : (ts : List Term) (ns : List ℕ) (n : ℕ) (v : Path × ℕ) → Contains ns n → Contains (variables_of (nth ts n)) v
    → Contains (variables_in (term_list (map (nth ts) ns))) v
variables_among ts [] n v h at = absurd (contains_none n h)
variables_among ts (m ∷ ns) n v h at = elim (contains_cases m n ns h) [
  | inl e ↦ Contains-append_left (variables_of (nth ts m)) (variables_in (term_list (map (nth ts) ns))) v
      (subst (λ x. Contains (variables_of (nth ts x)) v) e at)
  | inr i ↦ Contains-append_right (variables_of (nth ts m)) (variables_in (term_list (map (nth ts) ns))) v (variables_among ts ns n v i at)
]

-- the same of a shape
variables_of_shape : (ts : List Term) (s : Shape) (n : ℕ) (v : Path × ℕ) → Contains (arguments_in s) n → Contains (variables_of (nth ts n)) v
    → Contains (variables_of (shape_term ts s)) v
variables_of_shape ts (Skeletons.variable k) n v h at = absurd (contains_none n h)
variables_of_shape ts (Skeletons.number z) n v h at = absurd (contains_none n h)
variables_of_shape ts (Skeletons.compound c ns) n v h at = variables_among ts ns n v h at

-- The variables of an argument's node are among those of the node.
variables_of_argument : (P : NamedProgram) (node n : ℕ) (v : Path × ℕ) → AllFall 0 P.skeleton.nodes → Contains (arguments_at P.skeleton node) n
    → Contains (variables_of (node_term P.skeleton.nodes n)) v → Contains (variables_of (node_term P.skeleton.nodes node)) v
variables_of_argument P node n v fall h at =
    let nodes : List Shape = P.skeleton.nodes in
    subst (λ (u : Term). Contains (variables_of u) v) (sym (node_term_shape nodes node fall))
    (variables_of_shape (terms_behind [] nodes) (shape_at P.skeleton node) n v h at)

-- The part is that of an argument's node.
part_of_node : (P : NamedProgram) (node : NodeNo) (base : ℕ) (q : Ref) → Contains (parts_of P (Node node base)) q
    → (n : ℕ) × Contains (arguments_at P.skeleton node.0) n × (q ≡ part_at P base n)
part_of_node P node base q h = contains_origin (part_at P base) (arguments_at P.skeleton node.0) q h

-- The cells that a part names are among those of the whole.
pub cells_of_parts : (P : NamedProgram) (r q : Ref) (cell : ℕ) → AllFall 0 P.skeleton.nodes → Contains (parts_of P r) q → Contains (shallow_cells P q) cell
    → Contains (shallow_cells P r) cell
cells_of_parts P Free q cell fall h at = absurd (contains_none q h)
cells_of_parts P (Cell c) q cell fall h at = absurd (contains_none q h)
cells_of_parts P (Node node base) q cell fall h at =
    let (n, among, is) = part_of_node P node base q h in
    let cells : Contains (cells_at base (variables_of (node_term P.skeleton.nodes n))) cell =
    subst (λ (xs : List ℕ). Contains xs cell) (ap (shallow_cells P) is ∙ cells_of_part P base n fall) at in
    let (v, has, same) = contains_origin (λ (v : Path × ℕ). base + 1 + v.1) (variables_of (node_term P.skeleton.nodes n)) cell cells in
    let whole : Contains (variables_of (node_term P.skeleton.nodes node.0)) v = variables_of_argument P node.0 n v fall among has in
    subst (Contains (shallow_cells P (Node node base))) (sym same)
    (contains_image (λ (v : Path × ℕ). base + 1 + v.1) (variables_of (node_term P.skeleton.nodes node.0)) v whole)
cells_of_parts P (Number pair) q cell fall h at = absurd (contains_none q h)
cells_of_parts P (Half bits) q cell fall h at = absurd (contains_none q h)

-- A part of what names no word of a pair names none.
pub part_whole : (P : NamedProgram) (w : Words) (r q : Ref) → AllFall 0 P.skeleton.nodes → Contains (parts_of P r) q → IsWhole P w r → IsWhole P w q
part_whole P w r q fall h whole = λ cell at. whole cell (cells_of_parts P r q cell fall h at)

-- The parts of what is in range are in range,
pub part_in_range : (P : NamedProgram) (words : ℕ) (r q : Ref) → AllFall 0 P.skeleton.nodes → IsInRange P words r → Contains (parts_of P r) q
    → IsInRange P words q
part_in_range P words Free q fall fits h = absurd (contains_none q h)
part_in_range P words (Cell c) q fall fits h = absurd (contains_none q h)
part_in_range P words (Node node base) q fall fits h = Parts.part_in_range P fall words node base q fits h
part_in_range P words (Number pair) q fall fits h = absurd (contains_none q h)
part_in_range P words (Half bits) q fall fits h = absurd (contains_none q h)

-- where a node is found is no number in a pair
resolved_written : (k : Seen) (s : Shape) (node : NodeNo) (base : ℕ) → IsWrittenIfNumber k (resolved s node base)
resolved_written k (Skeletons.variable n) node base pair is = absurd (cc)
resolved_written k (Skeletons.number z) node base pair is = absurd (cc)
resolved_written k (Skeletons.compound c ns) node base pair is = absurd (cc)

-- and are no numbers in pairs.
pub part_written : (P : NamedProgram) (s : Seen) (r q : Ref) → Contains (parts_of P r) q → IsWrittenIfNumber s q
part_written P s Free q h = absurd (contains_none q h)
part_written P s (Cell c) q h = absurd (contains_none q h)
part_written P s (Node node base) q h =
    let (n, among, is) = part_of_node P node base q h in
    subst (IsWrittenIfNumber s) (sym is) (resolved_written s (shape_at P.skeleton n) (record { 0 = n }) base)
part_written P s (Number pair) q h = absurd (contains_none q h)
part_written P s (Half bits) q h = absurd (contains_none q h)

-- a pair of two lists has its sides in them
pub sides_of_pairs : (rs qs : List Ref) (p : Pair) → Contains (pairs_of rs qs) p → Contains rs p.left × Contains qs p.right
sides_of_pairs [] qs p h = absurd (contains_none p h)
sides_of_pairs (r ∷ rs) [] p h = absurd (contains_none p h)
sides_of_pairs (r ∷ rs) (q ∷ qs) p h = elim (contains_cases (record { left = r; right = q }) p (pairs_of rs qs) h) [
  | inl e ↦ (
    subst (λ (x : Pair). Contains (r ∷ rs) x.left) (sym e) (contains_first r rs),
    subst (λ (x : Pair). Contains (q ∷ qs) x.right) (sym e) (contains_first q qs),
  )
  | inr i ↦ let (left, right) = sides_of_pairs rs qs p i in (contains_more r p.left rs left, contains_more q p.right qs right)
]

-- references with the same values agree in pairs
pairs_agree : (P : NamedProgram) (w : Words) (t : Substitution) (rs qs : List Ref) (us : Terms) → HaveValues P w t rs us → HaveValues P w t qs us
    → ((r : Ref) → Contains rs r → IsWhole P w r) → ((q : Ref) → Contains qs q → IsWhole P w q) → (p : Pair) → Contains (pairs_of rs qs) p → PairAgrees P w t p
pairs_agree P w t [] qs us hr hq left right p h = absurd (contains_none p h)
pairs_agree P w t (r ∷ rs) [] us hr hq left right p h = absurd (contains_none p h)
pairs_agree P w t (r ∷ rs) (q ∷ qs) Terms.none hr hq left right p h = absurd hr
pairs_agree P w t (r ∷ rs) (q ∷ qs) (Terms.more u us) hr hq left right p h = elim (contains_cases (record { left = r; right = q }) p (pairs_of rs qs) h) [
  | inl e ↦ subst (PairAgrees P w t) (sym e)
      (record { term = u; left = hr.0; right = hq.0; left_whole = left r (contains_first r rs); right_whole = right q (contains_first q qs) })
  | inr i ↦ pairs_agree P w t rs qs us hr.1 hq.1 (λ x c. left x (contains_more r x rs c)) (λ x c. right x (contains_more q x qs c)) p i
]

-- the arguments of a term
abbrev pub arguments_of : Term → Terms
arguments_of (Terms.variable q k) = Terms.none
arguments_of (Terms.number z) = Terms.none
arguments_of (Terms.compound c ts) = ts

-- The parts of structures that agree agree.
pub parts_agree : (P : NamedProgram) (w : Words) (t : Substitution) (one other : Ref) (name count : ℕ) → AllFall 0 P.skeleton.nodes
    → IsStructure P one name count → IsStructure P other name count → Agree P w t one other
    → (p : Pair) → Contains (pairs_of (parts_of P one) (parts_of P other)) p → PairAgrees P w t p
parts_agree P w t one other name count fall left right a =
    let (us, is, hus) = value_of_structure P w t one name count fall left in
    let (vs, are, hvs) = value_of_structure P w t other name count fall right in
    let same : Terms.compound name vs ≡ Terms.compound name us =
    same_Some (Terms.compound name vs) (Terms.compound name us) (sym are ∙ a.right ∙ sym a.left ∙ is) in
    let lists : vs ≡ us = ap arguments_of same in
    pairs_agree P w t (parts_of P one) (parts_of P other) us hus (subst (HaveValues P w t (parts_of P other)) lists hvs)
    (λ q c. part_whole P w one q fall c a.left_whole) (λ q c. part_whole P w other q fall c a.right_whole)

-- Lists of one length are joined where their pairs are.
pairs_joined : (Link : Ref → Ref → Type 0) (rs qs : List Ref) → length rs ≡ length qs → ((p : Pair) → Contains (pairs_of rs qs) p → Joined Link p.left p.right)
    → AllJoined Link rs qs
pairs_joined Link [] [] e links = none
pairs_joined Link [] (q ∷ qs) e links = absurd (omega arith)
pairs_joined Link (r ∷ rs) [] e links = absurd (omega arith)
pairs_joined Link (r ∷ rs) (q ∷ qs) e links =
    let p : Pair = record { left = r; right = q } in
    more r q rs qs (links p (contains_first p (pairs_of rs qs))) (pairs_joined Link rs qs (omega arith) (λ x c. links x (contains_more p x (pairs_of rs qs) c)))

-- a mapped list is as long
pub length_map : {X Y : Type 0} (f : X → Y) (xs : List X) → length (map f xs) ≡ length xs
length_map f [] = refl
length_map f (x ∷ xs) = ap suc (length_map f xs)

-- how many parts a structure has
pub parts_counted : (P : NamedProgram) (r : Ref) (name count : ℕ) → IsStructure P r name count → length (parts_of P r) ≡ count
parts_counted P r name count s =
    let shape : shape_at P.skeleton s.node.0 ≡ Skeletons.compound name s.arguments = shape_of_structure P r name count s in
    ap (λ q. length (parts_of P q)) s.reference
    ∙ length_map (part_at P s.base) (arguments_at P.skeleton s.node.0)
    ∙ ap (λ x. length (arguments_in x)) shape ∙ s.counted

-- The parts of two structures of one number of arguments are joined where their pairs are.
pub parts_joined : (P : NamedProgram) (Link : Ref → Ref → Type 0) (one other : Ref) (name count : ℕ) → IsStructure P one name count
    → IsStructure P other name count
    → ((p : Pair) → Contains (pairs_of (parts_of P one) (parts_of P other)) p → Joined Link p.left p.right) → AllJoined Link (parts_of P one) (parts_of P other)
parts_joined P Link one other name count left right links =
    pairs_joined Link (parts_of P one) (parts_of P other) (parts_counted P one name count left ∙ sym (parts_counted P other name count right)) links
