-- Structures in the frames of small rows.
use Rattle.std.proofs.Common.{ℕ, zero, suc, ◌+◌, ◌^◌, ◌≡◌, ◌<◌, ◌≤◌, List, [], ◌∷◌, length, map, get_or, subst, arith}
use Rattle.and_model.specs.declared.numbers.NameNo.{NameNo}
use Rattle.and_model.specs.declared.numbers.NodeNo.{NodeNo}
use Rattle.and_model.specs.declared.reference.Ref.TheVariants.{Node}
use Rattle.and_program.specs.Skeletons
use Rattle.and_program.specs.Skeletons.{Shape, AllThere}
use Rattle.and_program.specs.Items.{node_item}
use Rattle.and_program.specs.Kept.{AllWithin}
use Rattle.and_program.specs.Loaded.{shape_at}
use Rattle.and_program.specs.Shown.{shown}
use Rattle.and_program.specs.declared.item.ItemNode.{ItemNode}
use Rattle.and_program.specs.declared.item.ItemNode.TheVariants.{Call, Equal, Is, Compare, Fail}
use Rattle.and_program.specs.declared.node.NodeKind.TheVariants.{Compound}
use Rattle.and_cells.specs.Ranges.{NamedProgram, IsInRange}
use Rattle.and_cells.proofs.Frames.{node_in_range, no_variable}

-- What is shown as a compound is no variable.
shown_is_no_variable : (s : Shape) (name : NameNo) (count k : ℕ) → shown s ≡ Compound name count → s ≡ Skeletons.variable k → ⊥
shown_is_no_variable (Skeletons.variable j) name count k e is = absurd (cc)
shown_is_no_variable (Skeletons.number z) name count k e is = absurd (cc)
shown_is_no_variable (Skeletons.compound c ns) name count k e is = absurd (cc)

-- A structure in a frame of 256 words is in range.
pub structure_fits : (P : NamedProgram) (m words base : ℕ) (node : NodeNo) (name : NameNo) (count : ℕ) → AllWithin m P.skeleton.nodes
    → length P.skeleton.nodes ≤ 524289 → node.0 < length P.skeleton.nodes → shown (shape_at P.skeleton node.0) ≡ Compound name count
    → base + 256 ≤ words → words ≤ 2 ^ 22 + 256 → IsInRange P words (Node node base)
structure_fits P m words base node name count within few there is room short = (
  node_in_range P m words node.0 base within few there room short,
  no_variable P node.0 (λ k variable. shown_is_no_variable (shape_at P.skeleton node.0) name count k is variable),
)

-- The right side of an equation is a node that is there.
pub right_is_there : (ss : List Shape) (k place : ℕ) (items : List ItemNode) (d : ItemNode) (left right : NodeNo) → AllThere ss k (map node_item items)
    → place < length items
    → get_or items place d ≡ Equal left right → right.0 < length ss
right_is_there ss k place [] d left right there below is = absurd (omega arith)
right_is_there ss k zero (Call g ∷ items) d left right there below is = absurd (cc)
right_is_there ss k zero (Equal l r ∷ items) d left right there below is =
    let same : r ≡ right = cc in
    subst (λ (n : NodeNo). n.0 < length ss) same there.0.1
right_is_there ss k zero (Is l r pair ∷ items) d left right there below is = absurd (cc)
right_is_there ss k zero (Compare o l r ∷ items) d left right there below is = absurd (cc)
right_is_there ss k zero (Fail ∷ items) d left right there below is = absurd (cc)
right_is_there ss k (suc place) (item ∷ items) d left right there below is =
    right_is_there ss (Skeletons.after k (node_item item)) place items d left right there.1 (omega arith) is
