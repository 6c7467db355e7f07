-- A call and the head of a clause in a frame that was put behind a row: what is asked of the two, and of the row.
use Rattle.std.proofs.Common.{ℕ, ◌+◌, ◌≡◌, ◌≤◌, List, [], ◌∷◌, ◌++◌, length, Some, refl, sym, subst}
use Rattle.std.specs.Prelude.{slice_get}
use Rattle.and_model.specs.Programs.{clause_at, clause_weight}
use Rattle.and_model.specs.Solutions.{Equation}
use Rattle.and_model.specs.Stands.{term_of}
use Rattle.and_model.specs.OwnVariables.{HaveOwnVariables}
use Rattle.and_model.specs.declared.goal.Goal.{Goal}
use Rattle.and_model.specs.declared.limits.TheConstants.{MAX_NODES}
use Rattle.and_model.specs.declared.reference.Ref.{Ref}
use Rattle.and_program.specs.declared.loaded.Loaded.{Loaded}
use Rattle.and_program.specs.Loaded.{nodes_at, program_of, skeleton_of}
use Rattle.and_program.specs.Skeletons
use Rattle.and_program.specs.Skeletons.{IsSkeleton}
use Rattle.and_cells.specs.Ranges.{NamedProgram, IsNodeInRange}
use Rattle.and_cells.specs.Seen.{word_at}
use Rattle.and_cells.specs.Parts.{named, part_at}
use Rattle.and_unify.specs.Pairs.{equations_of_pairs}
use Rattle.and_branch_laws.specs.Goals.{CanBeJudged, IsNodeOf}
use Rattle.and_branch_laws.specs.Reducing.{body_equations, reduction_in_cells}
use Rattle.and_branch_laws.specs.Settling.{widened}
use Rattle.and_branch_laws.specs.Variables.{placed}
use Rattle.and_branch_laws.proofs.Loading.{loaded_is}
use Rattle.and_branch_laws.proofs.Nodes.{call_cells, found_node}
use Rattle.and_heads.specs.Calls.{call_and_head}
use Rattle.and_step_laws.specs.Asking.{Ask}
use Rattle.and_step_laws.specs.Frames.{IsCallBelow, IsFrame}
use Rattle.and_step_laws.proofs.AskedPairs.{call_asked}
use Rattle.and_step_laws.proofs.NewFrames.{call_below, head_reads}
use Rattle.and_reduction.specs.Items.{IsHeadOf}

-- what is asked in the frame of the clause at the floor by the node of the goal and the head
pub record IsHeadAsked (P : NamedProgram) (wide : List Ref) (c floor : ℕ) (g : Goal) (node head : ℕ) : Type 0 where
  pub call_in_range : IsNodeInRange P (length wide) node g.base
  pub head_in_range : IsNodeInRange P (length wide) head floor
  pub ask : Ask P wide floor (call_and_head P g.base node floor head)
      ((placed g.base (term_of P.program g), placed floor (clause_at P.program c).head) ∷ [])

module _ (P : NamedProgram) (l : Loaded) (same : P ≡ named l) (skeleton : IsSkeleton (skeleton_of l) (program_of l))
    (own : HaveOwnVariables (program_of l)) (few : length (skeleton_of l).nodes ≤ MAX_NODES + 1) (row wide : List Ref) (c floor : ℕ) (g : Goal)
    (node head : ℕ) (there : c ≤ length P.program.clauses) (is_wide : wide ≡ widened row (clause_weight (clause_at P.program c)))
    (behind : floor ≡ length row) (can : CanBeJudged P row g) (frame : IsFrame P wide c floor)
    (is_node : IsNodeOf P row g node) (is_head : IsHeadOf P c head) where
  pub head_asked : IsHeadAsked P wide c floor g node head
  head_asked =
      let facts = loaded_is P l same skeleton own few in
      let below : IsCallBelow P wide floor g =
      subst (λ (n : ℕ). IsCallBelow P wide n g) (sym behind)
      (call_below P row wide (clause_weight (clause_at P.program c)) g is_wide can (call_cells P facts row g can)) in
      let read = subst (λ (Q : NamedProgram). slice_get (nodes_at Q.skeleton g.clause.0).items g.item ≡ Some (Skeletons.call node)) same is_node.there in
      let is = found_node P l wide g node same skeleton own few below.judged read in
      record {
        call_in_range = is.reads.in_range;
        head_in_range = subst (λ (h : ℕ). IsNodeInRange P (length wide) h floor) (sym is_head.0)
            (head_reads P facts wide c floor there frame).in_range;
        ask = call_asked P facts wide c floor there frame g below node is head is_head.0 (part_at P g.base node) (part_at P floor head)
            refl refl [] (call_and_head P g.base node floor head) refl refl;
      }

  -- What holds of the row with the frame and of what the pair and the body ask holds of it as the definitions have it.
  pub reduced : (X : List Ref → List Equation → Type 0)
      → X wide (equations_of_pairs P (word_at wide) (call_and_head P g.base node floor head)
      ++ body_equations (placed floor) (clause_at P.program c).body)
      → X (widened row (clause_weight (clause_at P.program c))) (reduction_in_cells P.program g c (length row))
  reduced X x =
      subst (λ (r : List Ref). X r (reduction_in_cells P.program g c (length row))) is_wide
      (subst (λ (n : ℕ). X wide (reduction_in_cells P.program g c n)) behind
      (subst (λ (es : List Equation). X wide (es ++ body_equations (placed floor) (clause_at P.program c).body)) head_asked.ask.equations x))
