-- A row to which a frame was added names frames, where pairs of nodes were settled in it.
use Rattle.std.proofs.Common.{ℕ, ◌+◌, ◌<◌, List, [], ◌∷◌, ◌++◌, length, map, sym, subst, inl, inr, Contains}
use Rattle.std.proofs.lemmas.List.Elements.{Contains-append_left, Contains-append_right, Contains-append_cases, All-contains}
use Rattle.and_model.specs.Store.{Frame}
use Rattle.and_model.specs.declared.reference.Ref.{Ref}
use Rattle.and_program.specs.Skeletons.{AllFall}
use Rattle.and_laws.proofs.Ordered.{contains_first}
use Rattle.and_cells.specs.Ranges.{NamedProgram, IsInRange}
use Rattle.and_cell_laws.proofs.Images.{contains_origin}
use Rattle.and_unify.specs.declared.pairs.Pair.{Pair}
use Rattle.and_unify.specs.Pairs.{AreInRange}
use Rattle.and_unify.specs.Places.{left_sides, sides}
use Rattle.and_branch_laws.specs.Settling.{widened}
use Rattle.and_branch_laws.proofs.Widening.{widened_length}
use Rattle.and_moved_laws.specs.KeptFrames.{NamesFrame, NamesFrames}
use Rattle.and_moved_laws.proofs.Naming.{last_named, more_frames, widened_names, settled_names}
use Rattle.and_reduction.specs.Writes.{SetsNodes}

-- a side of pairs that are in range is in range
side_in_range : (P : NamedProgram) (words : ℕ) (pairs : List Pair) (r : Ref) → AreInRange P words pairs → Contains (sides pairs) r
    → IsInRange P words r
side_in_range P words pairs r fits at =
    let both : (p : Pair) → Contains pairs p → IsInRange P words p.left × IsInRange P words p.right =
    λ p among. All-contains (λ (p : Pair). IsInRange P words p.left × IsInRange P words p.right) pairs p fits among in
    let rights : List Ref = map (λ (p : Pair). p.right) pairs in
    elim (Contains-append_cases (left_sides pairs) rights r at) [
      | inl left ↦
          let (p, among, is) = contains_origin (λ (p : Pair). p.left) pairs r left in
          subst (IsInRange P words) (sym is) (both p among).0
      | inr right ↦
          let (p, among, is) = contains_origin (λ (p : Pair). p.right) pairs r right in
          subst (IsInRange P words) (sym is) (both p among).1
    ]

-- Where the row named frames, and the sides that are no nodes of the new frame do, the new row does.
pub new_frame_named : (P : NamedProgram) (frames : List Frame) (row new : List Ref) (weight : ℕ) (tops : List Ref) → AllFall 0 P.skeleton.nodes
    → 0 < weight → NamesFrames P frames row
    → ((r : Ref) → Contains tops r → NamesFrame P (frames ++ record { base = length row; weight = weight } ∷ []) r)
    → SetsNodes P (widened row weight) new (length row) tops
    → NamesFrames P (frames ++ record { base = length row; weight = weight } ∷ []) new
new_frame_named P frames row new weight tops fall some names named sets =
    let last : Frame = record { base = length row; weight = weight } in
    let all : List Frame = frames ++ last ∷ [] in
    let before : NamesFrames P all (widened row weight) =
    widened_names P all row weight (more_frames P frames all row (λ f h. Contains-append_left frames (last ∷ []) f h) names) in
    settled_names P all (widened row weight) new sets.pairs fall before
    (λ r at.
    let asked = sets.asked in
    elim (asked.each r at) [
      | inl top ↦ named r top
      | inr node ↦
          let range : IsInRange P (length row + weight) r =
          subst (λ (n : ℕ). IsInRange P n r) (widened_length row weight)
          (side_in_range P (length (widened row weight)) sets.pairs r sets.in_range at) in
          subst (NamesFrame P all) (sym node.1)
          (last_named P all last node.0 (Contains-append_right frames (last ∷ []) last (contains_first last [])) some
          (subst (IsInRange P (length row + weight)) node.1 range))
    ]) sets.sets
