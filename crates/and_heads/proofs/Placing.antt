-- The arguments of structures, which are found where their nodes are.
use Rattle.std.proofs.Common.{ℕ, ◌≡◌, ◌<◌, ◌≤◌, ◌+◌, List, ◌++◌, length, map, get_or, drop, slice_get, Some, refl, sym, ap, subst, ◌∙◌, arith}
use Rattle.std.proofs.lemmas.List.{length-map, get_or-map}
use Rattle.and_model.specs.declared.numbers.NodeNo.{NodeNo}
use Rattle.and_model.specs.declared.reference.Ref.{Ref}
use Rattle.and_program.specs.Loaded.{arguments_at}
use Rattle.and_program.specs.Skeletons.{AllFall}
use Rattle.and_program.proofs.LoadedLemmas.{node_argument}
use Rattle.and_cells.specs.Ranges.{NamedProgram}
use Rattle.and_cells.specs.Seen.{Seen}
use Rattle.and_cells.specs.Parts.{parts_of, part_at}
use Rattle.and_unify.specs.declared.structures.Structure.{Structure}
use Rattle.and_unify.specs.declared.pairs.Pair.{Pair}
use Rattle.and_unify.specs.Running.{Runs, arguments_of_both}
use Rattle.and_unify.proofs.TurnArguments.{argument_found, as_many}
use Rattle.and_unify.proofs.DescentRuns.{PairTurn, argument_turn}
use Rattle.and_heads.specs.declared.parts.Part.{Part}
use Rattle.and_heads.specs.declared.entering.Entered.{Entered}
use Rattle.and_heads.specs.Entering.{Meets}
use Rattle.and_heads.specs.Parts.{HasShape, both_of, named_by}
use Rattle.and_heads.proofs.Comparing.{pair_of}

-- the number of a node
abbrev pub number : NodeNo → ℕ
number node = node.0

-- the node at a place of a list
abbrev pub node_in : List NodeNo → ℕ → NodeNo
node_in nodes k = get_or nodes k (record { 0 = 0 })

module _ (ns : List ℕ) (nodes : List NodeNo) (all : map number nodes ≡ ns) where
  -- There are as many nodes as their numbers,
  pub as_many_nodes : length nodes ≡ length ns
  as_many_nodes = sym (length-map nodes number) ∙ ap (λ (ms : List ℕ). length ms) all

  -- and each has the number at its place.
  pub node_read : (k : ℕ) → k < length nodes → (node_in nodes k).0 ≡ get_or ns k 0
  node_read k below =
      sym (get_or-map number nodes k (record { 0 = 0 }) 0 below) ∙ ap (λ (ms : List ℕ). get_or ms k 0) all

-- There is a node at each place below so many arguments.
pub node_at : (P Q : NamedProgram) (node count place : ℕ) (nodes : List NodeNo) → P ≡ Q → map number nodes ≡ arguments_at Q.skeleton node
    → count ≤ length (arguments_at P.skeleton node) → place < count → place < length nodes
node_at P Q node count place nodes same all few below =
    let long : length (arguments_at P.skeleton node) ≡ length (arguments_at Q.skeleton node) =
    ap (λ (p : NamedProgram). length (arguments_at p.skeleton node)) same in
    let many = as_many_nodes (arguments_at Q.skeleton node) nodes all in
    omega (arith, long, many, few, below)

module _ (Q : NamedProgram) (whole : Structure) (nodes : List NodeNo) (all : map number nodes ≡ arguments_at Q.skeleton whole.node.0) (k : ℕ)
    (below : k < length nodes) where
  -- An argument of a structure is found where its node is,
  pub part_read : (part : Ref) → part ≡ part_at Q whole.base (node_in nodes k).0 → slice_get (parts_of Q (named_by whole)) k ≡ Some part
  part_read part is =
      let many = as_many_nodes (arguments_at Q.skeleton whole.node.0) nodes all in
      argument_found Q whole.node (node_in nodes k) whole.base k part (omega (arith, many, below))
      (node_read (arguments_at Q.skeleton whole.node.0) nodes all k below) is

  -- and its node is there.
  pub node_there : (P : NamedProgram) → P ≡ Q → AllFall 0 P.skeleton.nodes → whole.node.0 < length P.skeleton.nodes
      → (node_in nodes k).0 < length Q.skeleton.nodes
  node_there P same falls there =
      let many = as_many_nodes (arguments_at Q.skeleton whole.node.0) nodes all in
      let here = subst (λ (p : NamedProgram). whole.node.0 < length p.skeleton.nodes) same there in
      let lower = node_argument Q.skeleton.nodes whole.node.0 k (node_in nodes k).0 (subst (λ (p : NamedProgram). AllFall 0 p.skeleton.nodes) same falls) here
      (omega (arith, many, below)) (node_read (arguments_at Q.skeleton whole.node.0) nodes all k below) in
      let less = lower.1 in
      omega (arith, less, here)

module _ (P Q : NamedProgram) (part : Part) (lefts rights : List NodeNo) (same : P ≡ Q)
    (all_left : map number lefts ≡ arguments_at Q.skeleton part.left.node.0) (all_right : map number rights ≡ arguments_at Q.skeleton part.right.node.0) where
  -- Structures of one shape have as many arguments,
  pub as_long : (words : ℕ) → HasShape P words part → length lefts ≡ length rights
  as_long words shape =
      let many = as_many P Q words (named_by part.left) (named_by part.right)
      part.left.node part.right.node part.left.base part.right.base same shape refl refl in
      let first = as_many_nodes (arguments_at Q.skeleton part.left.node.0) lefts all_left in
      let second = as_many_nodes (arguments_at Q.skeleton part.right.node.0) rights all_right in
      omega (arith, many, first, second)

  -- the nodes of which are there,
  pub right_there : (words k : ℕ) → HasShape P words part → AllFall 0 P.skeleton.nodes → k < length lefts → (node_in rights k).0 < length Q.skeleton.nodes
  right_there words k shape falls below =
      let long = as_long words shape in
      node_there Q part.right rights all_right k (omega (arith, long, below)) P same falls shape.right_in_range.0.there

  -- and those that were read are the next pair.
  pub read_turn : (old s : Seen) (todo behind : List Pair) (bound further : List ℕ) (k : ℕ) (to : Ref) → AllFall 0 P.skeleton.nodes
      → HasShape P old.words part → k < length lefts → to ≡ part_at Q part.right.base (node_in rights k).0
      → Runs P old todo bound s (drop k (arguments_of_both P (both_of part)) ++ behind) further
      → PairTurn P old s todo (drop (k + 1) (arguments_of_both P (both_of part)) ++ behind) bound further
      (pair_of (part_at Q part.left.base (node_in lefts k).0) to)
  read_turn old s todo behind bound further k to falls shape below is runs =
      let long = as_long old.words shape in
      argument_turn P Q old s todo behind bound further (both_of part) (pair_of (part_at Q part.left.base (node_in lefts k).0) to) (named_by part.left)
      (named_by part.right) k same falls shape refl refl (part_read Q part.left lefts all_left k below (part_at Q part.left.base (node_in lefts k).0) refl)
      (part_read Q part.right rights all_right k (omega (arith, long, below)) to is) runs

-- What comes of two references comes of those that they are.
pub meets_placed : (P : NamedProgram) (old new : Seen) (one other left right : Ref) (parts longer : List Part) (bound last : List ℕ) (r : Entered)
    → one ≡ left → right ≡ other → Meets P (pair_of one other) old new parts longer bound last r
    → Meets P (pair_of left right) old new parts longer bound last r
meets_placed P old new one other left right parts longer bound last r first second meets =
    subst (λ x. Meets P (pair_of left x) old new parts longer bound last r) (sym second)
    (subst (λ x. Meets P (pair_of x other) old new parts longer bound last r) first meets)
