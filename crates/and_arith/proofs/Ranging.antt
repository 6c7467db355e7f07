-- The parts of structures in range are in range, and are no numbers in pairs.
use Rattle.std.proofs.Common.{ℕ, ◌≡◌, ◌<◌, ◌+◌, pos, List, [], ◌∷◌, map, length, get_or, refl, ap, sym, subst, ◌∙◌, arith, inl, inr}
use Rattle.std.specs.Prelude.{Contains}
use Rattle.std.proofs.lemmas.List.Elements.{All-contains, All-from_get_or, Contains-get_or, Contains-append_left, Contains-append_right}
use Rattle.and_model.specs.Terms.{Path, Term, variables_of, variables_in}
use Rattle.and_model.specs.declared.numbers.NodeNo.{NodeNo}
use Rattle.and_model.specs.declared.reference.Ref.{Ref}
use Rattle.and_model.specs.declared.reference.Ref.TheVariants.{Node}
use Rattle.and_program.specs.Skeletons as shapes
use Rattle.and_program.specs.Skeletons.{Shape, term_list, nth, shape_term, terms_behind, node_term, Falls, IsFalling, AllFall}
use Rattle.and_program.specs.Loaded.{shape_at, arguments_at}
use Rattle.and_program.specs.Shown.{arguments_in, resolved}
use Rattle.and_program.proofs.NodeTerms.{AllFall-at}
use Rattle.and_cells.specs.Ranges.{NamedProgram, IsNodeInRange, IsInRange}
use Rattle.and_cells.specs.Seen.{Seen, IsWrittenIfNumber}
use Rattle.and_cells.specs.Parts.{part_at, parts_of}
use Rattle.and_cells.proofs.Frames.{no_variable}
use Rattle.and_cells.proofs.Among.{among_none, among_first, among_cases, map_among}
use Rattle.and_cell_laws.proofs.Structures.{node_term_shape}

-- what is among arguments that fall is below their node
falls_below : (n : ℕ) (ms : List ℕ) (m : ℕ) → Falls n ms → Contains ms m → m < n
falls_below n [] m falls c = absurd (among_none m c)
falls_below n (k ∷ ms) m falls c = elim (among_cases k m ms c) [
  | inl e ↦ subst (λ (a : ℕ). a < n) (sym e) falls.0
  | inr later ↦ falls_below n ms m falls.1 later
]

argument_falls : (n m : ℕ) (s : Shape) → IsFalling n s → Contains (arguments_in s) m → m < n
argument_falls n m (shapes.variable k) falls c = absurd (among_none m c)
argument_falls n m (shapes.number z) falls c = absurd (among_none m c)
argument_falls n m (shapes.compound name ms) falls c = falls_below n ms m falls c

-- a term of a list has its variables in the list
among_arguments : (ts : List Term) (ms : List ℕ) (m : ℕ) (v : Path × ℕ) → Contains ms m → Contains (variables_of (nth ts m)) v
    → Contains (variables_in (term_list (map (nth ts) ms))) v
among_arguments ts [] m v c at = absurd (among_none m c)
among_arguments ts (k ∷ ms) m v c at = elim (among_cases k m ms c) [
  | inl e ↦ Contains-append_left (variables_of (nth ts k)) (variables_in (term_list (map (nth ts) ms))) v
      (subst (λ (a : ℕ). Contains (variables_of (nth ts a)) v) e at)
  | inr later ↦ Contains-append_right (variables_of (nth ts k)) (variables_in (term_list (map (nth ts) ms))) v (among_arguments ts ms m v later at)
]

among_shape : (ts : List Term) (s : Shape) (m : ℕ) (v : Path × ℕ) → Contains (arguments_in s) m → Contains (variables_of (nth ts m)) v
    → Contains (variables_of (shape_term ts s)) v
among_shape ts (shapes.variable k) m v c at = absurd (among_none m c)
among_shape ts (shapes.number z) m v c at = absurd (among_none m c)
among_shape ts (shapes.compound name ms) m v c at = among_arguments ts ms m v c at

module _ (P : NamedProgram) (fall : AllFall 0 P.skeleton.nodes) where
  -- the variables of an argument's node are among those of the node
  pub among_node : (node m : ℕ) (v : Path × ℕ) → Contains (arguments_at P.skeleton node) m → Contains (variables_of (node_term P.skeleton.nodes m)) v
      → Contains (variables_of (node_term P.skeleton.nodes node)) v
  among_node node m v c at =
      subst (λ (u : Term). Contains (variables_of u) v) (sym (node_term_shape P.skeleton.nodes node fall))
      (among_shape (terms_behind [] P.skeleton.nodes) (shape_at P.skeleton node) m v c at)

  -- an argument's node is in range
  node_fits : (words base node m : ℕ) → IsNodeInRange P words node base → Contains (arguments_at P.skeleton node) m → m < node → IsNodeInRange P words m base
  node_fits words base node m fits c below =
      let own : List (Path × ℕ) = variables_of (node_term P.skeleton.nodes m) in record {
        there = omega (arith, fits.there);
        nameable = omega (arith, fits.nameable);
        base_below = fits.base_below;
        cells = All-from_get_or (λ (u : Path × ℕ). base + 1 + u.1 < words) own ([], 0) (λ i inside.
            All-contains (λ (u : Path × ℕ). base + 1 + u.1 < words) (variables_of (node_term P.skeleton.nodes node)) (get_or own i ([], 0)) fits.cells
            (among_node node m (get_or own i ([], 0)) c (Contains-get_or own i ([], 0) inside)));
      }

  -- where an argument of a node in range is found is in range
  argument_in_range : (words base node m : ℕ) (s : Shape) → IsNodeInRange P words node base → Contains (arguments_at P.skeleton node) m → m < node
      → shape_at P.skeleton m ≡ s
      → IsInRange P words (resolved s (record { 0 = m }) base)
  argument_in_range words base node m (shapes.variable k) fits c below at =
      let own : node_term P.skeleton.nodes m ≡ Rattle.and_model.specs.Terms.variable [] k =
      node_term_shape P.skeleton.nodes m fall ∙ ap (shape_term (terms_behind [] P.skeleton.nodes)) at in
      let there = among_node node m ([], k) c (subst (λ (u : Term). Contains (variables_of u) ([], k)) (sym own) (among_first ([], k) [])) in
      All-contains (λ (u : Path × ℕ). base + 1 + u.1 < words) (variables_of (node_term P.skeleton.nodes node)) ([], k) fits.cells there
  argument_in_range words base node m (shapes.number z) fits c below at =
      (node_fits words base node m fits c below, no_variable P m (λ k e. let both = sym at ∙ e in cc))
  argument_in_range words base node m (shapes.compound name ns) fits c below at =
      (node_fits words base node m fits c below, no_variable P m (λ k e. let both = sym at ∙ e in cc))

  -- an argument comes before its node
  pub argument_below : (node m : ℕ) → node < length P.skeleton.nodes → Contains (arguments_at P.skeleton node) m → m < node
  argument_below node m there c =
      let e : 0 + node ≡ node = omega arith in
      argument_falls node m (shape_at P.skeleton node)
      (subst (λ n. IsFalling n (shape_at P.skeleton node)) e (AllFall-at 0 P.skeleton.nodes node (shapes.number (pos 0)) fall there)) c

  -- The parts of what is in range are in range.
  pub part_in_range : (words : ℕ) (node : NodeNo) (base : ℕ) (q : Ref) → IsInRange P words (Node node base) → Contains (parts_of P (Node node base)) q
      → IsInRange P words q
  part_in_range words node base q fits c =
      let w = map_among (part_at P base) q (arguments_at P.skeleton node.0) c in
      subst (IsInRange P words) w.2
      (argument_in_range words base node.0 w.0 (shape_at P.skeleton w.0) fits.0 w.1 (argument_below node.0 w.0 fits.0.there w.1) refl)

-- where a part is found is no number in a pair
resolved_written : (s : Seen) (shape : Shape) (node : NodeNo) (base : ℕ) → IsWrittenIfNumber s (resolved shape node base)
resolved_written s (shapes.variable k) node base pair e = absurd (cc)
resolved_written s (shapes.number z) node base pair e = absurd (cc)
resolved_written s (shapes.compound c ns) node base pair e = absurd (cc)

pub part_written : (P : NamedProgram) (s : Seen) (node : NodeNo) (base : ℕ) (q : Ref) → Contains (parts_of P (Node node base)) q → IsWrittenIfNumber s q
part_written P s node base q c =
    let w = map_among (part_at P base) q (arguments_at P.skeleton node.0) c in
    subst (IsWrittenIfNumber s) w.2 (resolved_written s (shape_at P.skeleton w.0) (record { 0 = w.0 }) base)
