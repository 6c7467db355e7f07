-- Where the terms of nodes are found.
use Rattle.std.proofs.Common.{ℕ, ◌+◌, ◌≡◌, ◌≢◌, ◌<◌, List, [], ◌∷◌, refl, sym, ◌∙◌, subst, arith}
use Rattle.std.specs.Prelude.{All, Contains}
use Rattle.std.proofs.lemmas.List.Elements.{All-head, All-contains}
use Rattle.and_model.specs.Terms.{Path, Term, variables_of}
use Rattle.and_model.specs.declared.numbers.NodeNo.{NodeNo}
use Rattle.and_model.specs.declared.reference.Ref.TheVariants.{Number}
use Rattle.and_program.specs.Skeletons
use Rattle.and_program.specs.Skeletons.{Shape, node_term, shape_term, terms_behind, AllFall}
use Rattle.and_program.specs.Loaded.{shape_at}
use Rattle.and_program.specs.Shown.{resolved}
use Rattle.and_cells.specs.Ranges.{NamedProgram, IsNodeInRange, IsInRange}
use Rattle.and_cells.specs.Seen.{Seen, IsWrittenIfNumber}
use Rattle.and_cells.specs.Meaning.{shallow_cells}
use Rattle.and_cells.specs.Parts.{part_at}
use Rattle.and_cells.specs.Ends.{IsBelow}
use Rattle.and_cells.proofs.Frames.{no_variable}
use Rattle.and_cell_laws.proofs.Structures.{node_term_shape}
use Rattle.and_branch_laws.proofs.PairEquations.{part_cells}

-- What is found for a node that is in range is in range,
resolved_in_range : (P : NamedProgram) (words n base : ℕ) (ts : List Term) (s : Shape) → shape_at P.skeleton n ≡ s
    → node_term P.skeleton.nodes n ≡ shape_term ts s → IsNodeInRange P words n base → IsInRange P words (resolved s (record { 0 = n }) base)
resolved_in_range P words n base ts (Skeletons.variable k) at e r =
    let one : All (λ (v : Path × ℕ). base + 1 + v.1 < words) (([], k) ∷ []) =
    subst (λ (t : Term). All (λ (v : Path × ℕ). base + 1 + v.1 < words) (variables_of t)) e r.cells in
    All-head (λ (v : Path × ℕ). base + 1 + v.1 < words) ([], k) [] one
resolved_in_range P words n base ts (Skeletons.number z) at e r = (r, no_variable P n (λ k is. let both = sym at ∙ is in absurd cc))
resolved_in_range P words n base ts (Skeletons.compound d ns) at e r = (r, no_variable P n (λ k is. let both = sym at ∙ is in absurd cc))

pub part_in_range : (P : NamedProgram) (words n base : ℕ) → AllFall 0 P.skeleton.nodes → IsNodeInRange P words n base
    → IsInRange P words (part_at P base n)
part_in_range P words n base fall r =
    resolved_in_range P words n base (terms_behind [] P.skeleton.nodes) (shape_at P.skeleton n) refl
    (node_term_shape P.skeleton.nodes n fall) r

-- is no number of a pair,
resolved_no_number : (s : Shape) (node : NodeNo) (base pair : ℕ) → resolved s node base ≢ Number pair
resolved_no_number (Skeletons.variable k) node base pair e = cc
resolved_no_number (Skeletons.number z) node base pair e = cc
resolved_no_number (Skeletons.compound c ns) node base pair e = cc

pub part_written : (P : NamedProgram) (s : Seen) (base n : ℕ) → IsWrittenIfNumber s (part_at P base n)
part_written P s base n pair e = absurd (resolved_no_number (shape_at P.skeleton n) (record { 0 = n }) base pair e)

-- and names the cells of the node's variables.
pub part_names_below : (P : NamedProgram) (words n base : ℕ) → AllFall 0 P.skeleton.nodes → IsNodeInRange P words n base → (cell : ℕ)
    → Contains (shallow_cells P (part_at P base n)) cell → cell < words
part_names_below P words n base fall r cell c =
    let (v, at, is) = part_cells P base n fall cell c in
    let low = All-contains (λ (v : Path × ℕ). base + 1 + v.1 < words) (variables_of (node_term P.skeleton.nodes n)) v r.cells at in
    omega (arith, low, is)

-- where the frame begins, or a cell of it, is not below the frame
pub resolved_not_below : (floor : ℕ) (s : Shape) (node : NodeNo) → IsBelow floor (resolved s node floor) → ⊥
resolved_not_below floor (Skeletons.variable k) node below = absurd (omega arith)
resolved_not_below floor (Skeletons.number z) node below = absurd (omega arith)
resolved_not_below floor (Skeletons.compound c ns) node below = absurd (omega arith)
