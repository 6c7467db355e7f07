-- What is asked in a trial is in range.
use Rattle.std.proofs.Common.{ℕ, ◌+◌, ◌^◌, ◌≡◌, ◌<◌, ◌≤◌, List, [], ◌∷◌, length, refl, sym, subst, inl, inr, arith}
use Rattle.std.specs.Prelude.{Contains}
use Rattle.std.proofs.lemmas.List.Elements.{All-weaker}
use Rattle.and_model.specs.Terms.{Path, variables_of}
use Rattle.and_model.specs.declared.limits.TheConstants.{MAX_NODES}
use Rattle.and_model.specs.declared.reference.Ref.{Ref}
use Rattle.and_program.specs.Skeletons.{NodeItem, node_term, AllFall, AllThere}
use Rattle.and_program.specs.Kept.{AllWithin}
use Rattle.and_program.specs.Loaded.{program_of, skeleton_of}
use Rattle.and_program.specs.declared.loaded.Loaded.{Loaded}
use Rattle.and_laws.proofs.Ordered.{contains_cases, contains_none}
use Rattle.and_cells.specs.Ranges.{NamedProgram, IsNodeInRange}
use Rattle.and_cells.specs.Seen.{Seen}
use Rattle.and_cells.specs.Parts.{named, part_at}
use Rattle.and_cells.proofs.Frames.{node_in_range}
use Rattle.and_unify.specs.declared.pairs.Pair.{Pair}
use Rattle.and_shared_determinacy.specs.Truths.{CanFollow, CanFollowPairs}
use Rattle.and_shared_determinacy.specs.Weighing.{IsGuardInRange}
use Rattle.and_guards.proofs.Resolved.{part_in_range, part_written}
use Rattle.and_shared_determinacy.proofs.Weighed.{guard_in_range}

-- What is in range of some words is so of more.
pub range_more : (P : NamedProgram) (words more node base : ℕ) → words ≤ more → IsNodeInRange P words node base → IsNodeInRange P more node base
range_more P words more node base most r = record {
  there = r.there;
  nameable = r.nameable;
  base_below = r.base_below;
  cells = All-weaker (λ (v : Path × ℕ). base + 1 + v.1 < words) (λ (v : Path × ℕ). base + 1 + v.1 < more) (λ v low. omega (arith, low, most))
      (variables_of (node_term P.skeleton.nodes node)) r.cells;
}

-- A frame of 256 words has room for each node.
pub frame_range : (N : NamedProgram) (l : Loaded) → N ≡ named l → AllWithin (length (program_of l).names) (skeleton_of l).nodes
    → length (skeleton_of l).nodes ≤ MAX_NODES + 1
    → (words floor n : ℕ) → n < length (skeleton_of l).nodes → floor + 256 ≤ words → words ≤ 2 ^ 22 + 256 → IsNodeInRange N words n floor
frame_range N l same within few words floor n there room short =
    subst (λ (Q : NamedProgram). IsNodeInRange Q words n floor) (sym same)
    (node_in_range (named l) (length (program_of l).names) words n floor within (omega (arith, few)) there room short)

pub frame_guard : (N : NamedProgram) (l : Loaded) → N ≡ named l → AllWithin (length (program_of l).names) (skeleton_of l).nodes
    → length (skeleton_of l).nodes ≤ MAX_NODES + 1
    → (words floor : ℕ) → floor + 256 ≤ words → words ≤ 2 ^ 22 + 256 → (items : List NodeItem) → AllThere (skeleton_of l).nodes 0 items
    → IsGuardInRange N words floor items
frame_guard N l same within few words floor room short items there =
    subst (λ (Q : NamedProgram). IsGuardInRange Q words floor items) (sym same)
    (guard_in_range (named l) words floor (λ n low. frame_range (named l) l refl within few words floor n low room short) 0 items there)

-- A call and a head can be followed.
pub asked_follow : (P : NamedProgram) (fall : AllFall 0 P.skeleton.nodes) (s : Seen) (l r : Ref) (pairs : List Pair) (node base head floor : ℕ)
    → l ≡ part_at P base node → r ≡ part_at P floor head
    → IsNodeInRange P s.words node base → IsNodeInRange P s.words head floor → pairs ≡ record { left = l; right = r } ∷ [] → CanFollowPairs P s pairs
asked_follow P fall s l r pairs node base head floor left right range head_range is p among =
    let one : CanFollow P s l = subst (CanFollow P s) (sym left) (part_in_range P s.words node base fall range, part_written P s base node) in
    let two : CanFollow P s r = subst (CanFollow P s) (sym right) (part_in_range P s.words head floor fall head_range, part_written P s floor head) in
    let last : Pair = record { left = l; right = r } in
    elim (contains_cases last p [] (subst (λ (ps : List Pair). Contains ps p) is among)) [
      | inl e ↦ subst (λ (x : Pair). CanFollow P s x.left × CanFollow P s x.right) (sym e) (one, two)
      | inr i ↦ absurd (contains_none p i)
    ]
