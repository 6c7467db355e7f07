-- A branch whose row is part of its whole one reduces a call.
use Rattle.std.proofs.Common.{ℕ, suc, ◌+◌, ◌≡◌, ◌≤◌, List, [], ◌∷◌, ◌++◌, length, map, refl, sym, ap, subst, inl, inr, arith, Contains}
use Rattle.std.proofs.lemmas.List.Elements.{Contains-append_left}
use Rattle.and_model.specs.Terms.{Path, Term, variable}
use Rattle.and_model.specs.Programs.{Item, call, equal, arithmetic, fail, Of, clause_at, clause_weight}
use Rattle.and_model.specs.Trees.{QueryTree, weight, Open, path, call_of, reduce}
use Rattle.and_model.specs.Reductions.{Reduction}
use Rattle.and_model.specs.Reached.{Step}
use Rattle.and_model.specs.Stands.{Framed, term_of}
use Rattle.and_model.specs.Store.{Frame}
use Rattle.and_model.specs.declared.goal.Goal.{Goal}
use Rattle.and_model.specs.declared.limits.TheConstants.{MAX_WORDS}
use Rattle.and_model.specs.declared.reference.Ref.{Ref}
use Rattle.and_laws.proofs.ClausesOf.{of_applied}
use Rattle.and_laws.proofs.Order.{clause_weighs}
use Rattle.and_laws.proofs.Ordered.{contains_cases, contains_none, middle_has}
use Rattle.and_cells.specs.Ranges.{NamedProgram}
use Rattle.and_cells.specs.Parts.{part_at}
use Rattle.and_branch_laws.specs.OwnVariables.{IsLoaded}
use Rattle.and_branch_laws.specs.Goals.{IsNodeOf}
use Rattle.and_branch_laws.specs.Judging.{CandidateInCells}
use Rattle.and_branch_laws.specs.Kept.{goal_of, IsCall}
use Rattle.and_branch_laws.specs.Reducing.{reduction_in_cells, reduction_by, body_goals, goal_at}
use Rattle.and_branch_laws.specs.Settling.{widened, Settled}
use Rattle.and_moved_laws.specs.KeptFrames.{frame_of_goal, NamesFrame, NamesFrames}
use Rattle.and_moved_laws.specs.KeptParts.{PartKept, GrewBeside, framed_at}
use Rattle.and_moved_laws.proofs.Naming.{goal_named}
use Rattle.and_moved_laws.proofs.PartGoals.{open_of_tree}
use Rattle.and_moved_laws.proofs.Reducing.{reduced_kept}
use Rattle.and_moved_laws.proofs.States.{sole_steps}
use Rattle.and_reduction.specs.Writes.{SetsNodes}
use Rattle.and_part_steps.proofs.NewFrames.{new_frame_named}

-- The goals of a body in a frame, without the paths of theirs, are the same whatever these are.
pub same_goals : (base c n : ℕ) (q r : Path) (i : ℕ) (items : List Item)
    → map goal_of (map (framed_at base) (body_goals c n q i items)) ≡ map goal_of (map (framed_at base) (body_goals c n r i items))
same_goals base c n q r i [] = refl
same_goals base c n q r i (call g ∷ items) =
    ap (λ (l : List Goal). goal_of (framed_at base (goal_at c n q i)) ∷ l) (same_goals base c n q r (suc i) items)
same_goals base c n q r i (equal a b ∷ items) = same_goals base c n q r (suc i) items
same_goals base c n q r i (arithmetic a ∷ items) =
    ap (λ (l : List Goal). goal_of (framed_at base (goal_at c n q i)) ∷ l) (same_goals base c n q r (suc i) items)
same_goals base c n q r i (fail ∷ items) = same_goals base c n q r (suc i) items

-- Where no other clause is a candidate of a kept call, reducing it by the clause is a Step.
pub sole_step : (P : NamedProgram) (loaded : IsLoaded P) (rs : List Reduction) (frames : List Frame) (part : List Ref) (kept : List Framed)
    (t : QueryTree P.program) → PartKept P rs frames part kept t → (f : Framed) → Contains kept f → IsCall P.program f → (c : ℕ)
    → Of P.program (term_of P.program f.goal) c → ((d : ℕ) → CandidateInCells P part f.goal d → d ≡ c)
    → (o : Open t) × (of_it : Of P.program (call_of t o) c) × (path t o ≡ f.frame ++ f.goal.item ∷ []) × Step t (reduce t o c of_it)
sole_step P loaded rs frames part kept t k f h called c of_goal only =
    let (o, path_is, calls) = open_of_tree P rs frames part kept t k loaded.own f h called in
    let of_it : Of P.program (call_of t o) c =
    subst (λ (z : Term). Of P.program z c) (sym calls)
    (of_applied P.program (λ q k. variable f.frame k) (term_of P.program f.goal) c of_goal) in
    (o, of_it, path_is, sole_steps P loaded rs frames part kept t k f h called o path_is c of_it only)

module _ (P : NamedProgram) (loaded : IsLoaded P) (rs : List Reduction) (frames : List Frame) (part : List Ref) (front : List Framed) (f : Framed)
    (back : List Framed) (t : QueryTree P.program) (k : PartKept P rs frames part (front ++ f ∷ back) t) (called : IsCall P.program f) where
  -- The new row names frames: the call has its goal's, and all other sides are nodes in the new one.
  taken_names : (c node : ℕ) (new : List Ref) → IsNodeOf P part f.goal node
      → SetsNodes P (widened part (clause_weight (clause_at P.program c))) new (length part) (part_at P f.goal.base node ∷ [])
      → NamesFrames P (frames ++ record { base = length part; weight = clause_weight (clause_at P.program c) } ∷ []) new
  taken_names c node new node_of sets =
      let skeleton = loaded.skeleton in
      let last : Frame = record { base = length part; weight = clause_weight (clause_at P.program c) } in
      let own : Contains (frames ++ last ∷ []) (frame_of_goal P f.goal) =
      Contains-append_left frames (last ∷ []) (frame_of_goal P f.goal) (k.framed f (middle_has front back f)) in
      let weighs = clause_weighs (clause_at P.program c) in
      new_frame_named P frames part new (clause_weight (clause_at P.program c)) (part_at P f.goal.base node ∷ []) skeleton.0 (omega arith) k.names
      (λ r at. elim (contains_cases (part_at P f.goal.base node) r [] at) [
        | inl is ↦ subst (NamesFrame P (frames ++ last ∷ [])) (sym is) (goal_named P (frames ++ last ∷ []) f.goal node loaded.own own node_of.term)
        | inr none ↦ absurd (contains_none r none)
      ]) sets

  -- So the branch keeps the body's goals in the place of the call.
  pub taken_kept : (o : Open t) → path t o ≡ f.frame ++ f.goal.item ∷ [] → (c : ℕ) (of_it : Of P.program (call_of t o) c)
      → weight t + clause_weight (clause_at P.program c) ≤ MAX_WORDS → (node : ℕ) → IsNodeOf P part f.goal node → (new : List Ref)
      → Settled P (widened part (clause_weight (clause_at P.program c))) new (reduction_in_cells P.program f.goal c (length part))
      → SetsNodes P (widened part (clause_weight (clause_at P.program c))) new (length part) (part_at P f.goal.base node ∷ [])
      → (l : PartKept P (rs ++ reduction_by f.goal c (weight t) ∷ [])
      (frames ++ record { base = length part; weight = clause_weight (clause_at P.program c) } ∷ []) new
      (front ++ (map (framed_at (length part)) (body_goals c (weight t) (f.frame ++ f.goal.item ∷ []) 0 (clause_at P.program c).body) ++ back))
      (reduce t o c of_it)) × GrewBeside k.at l.at k.whole l.whole
  taken_kept o path_is c of_it short node node_of new settled sets =
      reduced_kept P loaded rs frames part front f back t k called o path_is c of_it short new settled (taken_names c node new node_of sets)

  -- The same by the sole clause that can be a candidate, which is a Step.
  pub sole_kept : (c : ℕ) → Of P.program (term_of P.program f.goal) c → ((d : ℕ) → CandidateInCells P part f.goal d → d ≡ c)
      → weight t + clause_weight (clause_at P.program c) ≤ MAX_WORDS → (node : ℕ) → IsNodeOf P part f.goal node → (new : List Ref)
      → Settled P (widened part (clause_weight (clause_at P.program c))) new (reduction_in_cells P.program f.goal c (length part))
      → SetsNodes P (widened part (clause_weight (clause_at P.program c))) new (length part) (part_at P f.goal.base node ∷ [])
      → (u : QueryTree P.program) × Step t u × (l : PartKept P (rs ++ reduction_by f.goal c (weight t) ∷ [])
      (frames ++ record { base = length part; weight = clause_weight (clause_at P.program c) } ∷ []) new
      (front ++ (map (framed_at (length part)) (body_goals c (weight t) (f.frame ++ f.goal.item ∷ []) 0 (clause_at P.program c).body) ++ back)) u)
      × GrewBeside k.at l.at k.whole l.whole
  sole_kept c of_goal only short node node_of new settled sets =
      let (o, of_it, path_is, step) =
      sole_step P loaded rs frames part (front ++ f ∷ back) t k f (middle_has front back f) called c of_goal only in
      let now = taken_kept o path_is c of_it short node node_of new settled sets in
      (reduce t o c of_it, step, now.0, now.1)
