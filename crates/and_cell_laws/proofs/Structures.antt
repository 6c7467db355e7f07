-- The value of a structure is its name over the values of its parts.
use Rattle.std.proofs.Common.{ℕ, ◌+◌, ◌≡◌, ◌≤◌, pos, List, [], ◌∷◌, length, map, get_or, Some, sym, ap, ◌∙◌, subst, inl, inr, arith}
use Rattle.std.proofs.lemmas.Bool.{cases_lt}
use Rattle.std.proofs.lemmas.List.{get_or_past}
use Rattle.std.proofs.lemmas.Option.{get_or_from_slice_get}
use Rattle.and_model.specs.Terms
use Rattle.and_model.specs.Terms.{Term, Terms, Substitution, apply, apply_all}
use Rattle.and_model.specs.declared.numbers.NodeNo.{NodeNo}
use Rattle.and_model.specs.declared.reference.Ref.{Ref}
use Rattle.and_model.specs.declared.reference.Ref.TheVariants.{Node}
use Rattle.and_program.specs.Skeletons
use Rattle.and_program.specs.Skeletons.{Shape, term_list, nth, shape_term, terms_behind, node_term, AllFall}
use Rattle.and_program.specs.Loaded.{shape_at}
use Rattle.and_program.specs.Shown.{arguments_in, resolved}
use Rattle.and_program.proofs.NodeTerms.{length-terms_behind, node_term_whole}
use Rattle.and_cells.specs.Ranges.{NamedProgram}
use Rattle.and_cells.specs.Meaning.{Words, cell_variable}
use Rattle.and_laws.proofs.Substitutions.{apply_then}
use Rattle.and_cells.specs.Parts.{IsStructure, parts_of, part_at}
use Rattle.and_cells.specs.Joined.{value}

-- the term of any node by its shape, where a number that names no node counts as the number 0
pub node_term_shape : (ss : List Shape) (n : ℕ) → AllFall 0 ss → node_term ss n ≡ shape_term (terms_behind [] ss) (get_or ss n (Skeletons.number (pos 0)))
node_term_shape ss n fall =
    elim (cases_lt n (length ss)) [
      | inl below ↦ node_term_whole ss n (Skeletons.number (pos 0)) fall below
      | inr past ↦
          let few : length (terms_behind [] ss) ≡ length ss = omega (arith, length-terms_behind [] ss) in
          let behind : length (terms_behind [] ss) ≤ n = omega arith in
          let no_term : node_term ss n ≡ Terms.number (pos 0) = get_or_past (terms_behind [] ss) n (Terms.number (pos 0)) behind in
          no_term ∙ ap (shape_term (terms_behind [] ss)) (sym (get_or_past ss n (Skeletons.number (pos 0)) past))
    ]

-- what a substitution makes of the variables of a clause whose frame begins at the base
abbrev pub in_frame : Substitution → (base : ℕ) → Substitution
in_frame t base = λ q k. t [] (base + 1 + k)

-- a node's value is its term in its frame
pub value_of_node : (P : NamedProgram) (w : Words) (t : Substitution) (node : NodeNo) (base : ℕ)
    → value P w t (Node node base) ≡ Some (apply (in_frame t base) (node_term P.skeleton.nodes node.0))
value_of_node P w t node base = ap (λ (u : Term). Some u) (apply_then (λ q k. cell_variable (base + 1 + k)) t (node_term P.skeleton.nodes node.0))

-- the value of a node where it is found by its shape
value_of_resolved : (P : NamedProgram) (w : Words) (t : Substitution) (ts : List Term) (s : Shape) (node : NodeNo) (base : ℕ)
    → node_term P.skeleton.nodes node.0 ≡ shape_term ts s
    → value P w t (resolved s node base) ≡ Some (apply (in_frame t base) (node_term P.skeleton.nodes node.0))
value_of_resolved P w t ts (Skeletons.variable k) node base e = ap (λ (u : Term). Some (apply (in_frame t base) u)) (sym e)
value_of_resolved P w t ts (Skeletons.number z) node base e = value_of_node P w t node base
value_of_resolved P w t ts (Skeletons.compound c ns) node base e = value_of_node P w t node base

-- and so it is of a node that is a variable, which is found in its cell
pub value_of_part : (P : NamedProgram) (w : Words) (t : Substitution) (base n : ℕ) → AllFall 0 P.skeleton.nodes
    → value P w t (part_at P base n) ≡ Some (apply (in_frame t base) (node_term P.skeleton.nodes n))
value_of_part P w t base n fall =
    value_of_resolved P w t (terms_behind [] P.skeleton.nodes) (shape_at P.skeleton n) (record { 0 = n }) base (node_term_shape P.skeleton.nodes n fall)

-- these are the values of the references, in order
abbrev pub HaveValues : NamedProgram → Words → Substitution → List Ref → Terms → Type 0
HaveValues P w t [] Terms.none = Unit {0}
HaveValues P w t [] (Terms.more u us) = ⊥
HaveValues P w t (r ∷ rs) Terms.none = ⊥
HaveValues P w t (r ∷ rs) (Terms.more u us) = (value P w t r ≡ Some u) × HaveValues P w t rs us

-- the arguments of a node have the values of their terms in the frame
parts_have_values : (P : NamedProgram) (w : Words) (t : Substitution) (base : ℕ) (ns : List ℕ) → AllFall 0 P.skeleton.nodes
    → HaveValues P w t (map (part_at P base) ns) (apply_all (in_frame t base) (term_list (map (nth (terms_behind [] P.skeleton.nodes)) ns)))
parts_have_values P w t base [] fall = tt
parts_have_values P w t base (n ∷ ns) fall = (value_of_part P w t base n fall, parts_have_values P w t base ns fall)

-- the shape of a structure's node
pub shape_of_structure : (P : NamedProgram) (r : Ref) (name count : ℕ) (s : IsStructure P r name count)
    → shape_at P.skeleton s.node.0 ≡ Skeletons.compound name s.arguments
shape_of_structure P r name count s = get_or_from_slice_get P.skeleton.nodes s.node.0 (Skeletons.compound name s.arguments) (Skeletons.number (pos 0)) s.shape

-- the value of a structure is its name over the values of its parts
pub value_of_structure : (P : NamedProgram) (w : Words) (t : Substitution) (r : Ref) (name count : ℕ) → AllFall 0 P.skeleton.nodes → IsStructure P r name count
    → (us : Terms) × (value P w t r ≡ Some (Terms.compound name us)) × HaveValues P w t (parts_of P r) us
value_of_structure P w t r name count fall s =
    let nodes : List Shape = P.skeleton.nodes in
    let shape : shape_at P.skeleton s.node.0 ≡ Skeletons.compound name s.arguments = shape_of_structure P r name count s in
    let ts : Terms = term_list (map (nth (terms_behind [] nodes)) s.arguments) in
    let us : Terms = apply_all (in_frame t s.base) ts in
    let term : node_term nodes s.node.0 ≡ Terms.compound name ts = node_term_shape nodes s.node.0 fall ∙ ap (shape_term (terms_behind [] nodes)) shape in
    let of_node : value P w t (Node s.node s.base) ≡ Some (Terms.compound name us) =
    value_of_node P w t s.node s.base ∙ ap (λ (u : Term). Some (apply (in_frame t s.base) u)) term in
    let of_parts : HaveValues P w t (parts_of P (Node s.node s.base)) us =
    subst (λ (x : Shape). HaveValues P w t (map (part_at P s.base) (arguments_in x)) us) (sym shape) (parts_have_values P w t s.base s.arguments fall) in
    let Claim : Ref → Type 0 = λ q. (us : Terms) × (value P w t q ≡ Some (Terms.compound name us)) × HaveValues P w t (parts_of P q) us in
    subst Claim (sym s.reference) (us, of_node, of_parts)
