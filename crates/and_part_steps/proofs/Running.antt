-- A branch whose row is part of its whole one runs arithmetic.
use Rattle.std.proofs.Common.{ℕ, ◌≡◌, List, [], ◌∷◌, ◌++◌, sym, subst, inl, inr, ◌⊎◌, Contains}
use Rattle.and_model.specs.Trees.{QueryTree}
use Rattle.and_model.specs.Reached.{Dead}
use Rattle.and_model.specs.Reductions.{Reduction}
use Rattle.and_model.specs.Stands.{Framed}
use Rattle.and_model.specs.Store.{Frame}
use Rattle.and_model.specs.declared.reference.Ref.{Ref}
use Rattle.and_model.specs.declared.reference.Ref.TheVariants.{Number}
use Rattle.and_program.specs.Skeletons
use Rattle.and_laws.proofs.Ordered.{contains_cases, contains_none, middle_has}
use Rattle.and_cells.specs.Ranges.{NamedProgram, pair_of}
use Rattle.and_cells.specs.Parts.{part_at}
use Rattle.and_unify.specs.Places.{sides}
use Rattle.and_branch_laws.specs.OwnVariables.{IsLoaded}
use Rattle.and_branch_laws.specs.Kept.{node_item_at}
use Rattle.and_moved_laws.specs.KeptFrames.{NamesFrame, NamesFrames}
use Rattle.and_moved_laws.specs.KeptParts.{PartKept, GrewBeside}
use Rattle.and_moved_laws.proofs.Naming.{settled_names, written_names}
use Rattle.and_moved_laws.proofs.PartGoals.{goal_range}
use Rattle.and_moved_laws.proofs.Running.{comparison_keeps, assignment_keeps, comparison_fails, no_value_fails, assignment_fails, pair_named, left_named}
use Rattle.and_step_laws.specs.Runs.{HasRun, CannotHold, compared, assigned}
use Rattle.and_step_laws.specs.Runs as runs
use Rattle.and_reduction.specs.Asked.{the_pair}
use Rattle.and_reduction.specs.Writes.{SetsNumber, SetsByRun, nothing, number}

-- the sides of one pair
side_of_one : (left right r : Ref) → Contains (sides (the_pair left right)) r → (r ≡ left) ⊎ (r ≡ right)
side_of_one left right r at = elim (contains_cases left r (right ∷ []) at) [
  | inl is ↦ inl is
  | inr more ↦ elim (contains_cases right r [] more) [ inl is ↦ inr is | inr none ↦ absurd (contains_none r none) ]
]

module _ (P : NamedProgram) (loaded : IsLoaded P) (rs : List Reduction) (frames : List Frame) (part : List Ref) (kept : List Framed)
    (t : QueryTree P.program) (k : PartKept P rs frames part kept t) (f : Framed) (h : Contains kept f) where
  -- A number that was written into the pair of an `is` goal and settled with its left node names the goal's frame.
  number_names : (new : List Ref) (l r pair : ℕ) → node_item_at P f.goal ≡ Skeletons.is l r pair
      → SetsNumber P part new f.goal.base l (pair_of P f.goal.clause.0 f.goal.base pair) → NamesFrames P frames new
  number_names new l r pair node sets =
      let skeleton = loaded.skeleton in
      let place : ℕ = pair_of P f.goal.clause.0 f.goal.base pair in
      let range = goal_range P rs frames part kept t k loaded f h in
      settled_names P frames sets.written new (the_pair (part_at P f.goal.base l) (Number place)) skeleton.0
      (written_names P frames part sets.written place sets.z sets.is_written k.names)
      (λ q at. elim (side_of_one (part_at P f.goal.base l) (Number place) q at) [
        | inl is ↦ subst (NamesFrame P frames) (sym is) (left_named P loaded rs frames part kept t k f h _ l r pair range node)
        | inr is ↦ subst (NamesFrame P frames) (sym is) (pair_named P loaded rs frames part kept t k f h l r pair node)
      ]) sets.sets

  -- So a row in which a kept goal was run names frames.
  pub ran_names : (new : List Ref) → SetsByRun P part new f.goal → NamesFrames P frames new
  ran_names new (nothing same) = subst (NamesFrames P frames) (sym same) k.names
  ran_names new (number l r pair node sets) = number_names new l r pair node sets

module _ (P : NamedProgram) (loaded : IsLoaded P) (rs : List Reduction) (frames : List Frame) (part : List Ref) (front : List Framed) (f : Framed)
    (back : List Framed) (t : QueryTree P.program) (k : PartKept P rs frames part (front ++ f ∷ back) t) where
  -- A goal that was run leaves the others,
  ran_kept_by : (new : List Ref) → HasRun P part new f.goal → NamesFrames P frames new
      → (l : PartKept P rs frames new (front ++ back) t) × GrewBeside k.at l.at k.whole l.whole
  ran_kept_by new (compared r a b u v item one other first second is_true same) names =
      subst (λ (row : List Ref). (l : PartKept P rs frames row (front ++ back) t) × GrewBeside k.at l.at k.whole l.whole) (sym same)
      (comparison_keeps P loaded rs frames part front f back t k r a b u v item one other first second is_true)
  ran_kept_by new (assigned l r u z left right pair mid item node read ground valued sound written settled) names =
      assignment_keeps P loaded rs frames part front f back t k l r u z left right pair item node read ground valued mid written new settled names

  pub ran_kept : (new : List Ref) → HasRun P part new f.goal → SetsByRun P part new f.goal
      → (l : PartKept P rs frames new (front ++ back) t) × GrewBeside k.at l.at k.whole l.whole
  ran_kept new run sets = ran_kept_by new run (ran_names P loaded rs frames part (front ++ f ∷ back) t k f (middle_has front back f) new sets)

  -- and one that cannot hold leaves no outcome.
  pub cannot_dies : CannotHold P part f.goal → Dead t
  cannot_dies (runs.CannotHold.compared r a b u v item one other first second is_false) =
      comparison_fails P loaded rs frames part (front ++ f ∷ back) t k f (middle_has front back f) r a b u v item one other first second is_false
  cannot_dies (runs.CannotHold.no_value l r u item read ground none_is) =
      no_value_fails P loaded rs frames part (front ++ f ∷ back) t k f (middle_has front back f) l r u item read ground none_is
  cannot_dies (runs.CannotHold.assigned l r u z left right pair mid item node read ground valued sound written none_is) =
      assignment_fails P loaded rs frames part front f back t k l r u z left right pair item node read ground valued mid written none_is
