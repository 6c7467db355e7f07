-- What arithmetic that reads as ground terms comes to.
use Rattle.std.proofs.Common.{ℕ, ℤ, suc, ◌+◌, ◌≡◌, Bool, true, false, cond, List, [], ◌∷◌, ◌++◌, Some, None, refl, sym, ap, subst, Contains}
use Rattle.std.proofs.lemmas.List.Elements.{All-contains, Contains-append_right}
use Rattle.and_model.specs.Terms.{Path, Term, number, none, more, variables_of, is_ground, are_ground, framed}
use Rattle.and_model.specs.Solutions.{Solvable, falsehood}
use Rattle.and_model.specs.Arithmetic.{Relation, value, holds}
use Rattle.and_model.specs.Programs.{arithmetic, is, compare}
use Rattle.and_model.specs.Closure.{equals, Known}
use Rattle.and_model.specs.Trees.{QueryTree}
use Rattle.and_model.specs.Reached.{Dead}
use Rattle.and_model.specs.Reductions.{Reduction}
use Rattle.and_model.specs.Stands.{Framed, term_of}
use Rattle.and_model.specs.Store.{is_half}
use Rattle.and_model.specs.declared.reference.Ref.{Ref}
use Rattle.and_model.specs.declared.reference.Ref.TheVariants.{Free}
use Rattle.and_program.specs.Skeletons
use Rattle.and_laws.proofs.Ordered.{contains_first}
use Rattle.and_cells.specs.Ranges.{NamedProgram, pair_of}
use Rattle.and_cells.specs.Rows.{IsSound}
use Rattle.and_cells.specs.Seen.{word_at}
use Rattle.and_cells.specs.Meaning.{equations_of}
use Rattle.and_branch_laws.specs.OwnVariables.{OwnVariables, IsLoaded}
use Rattle.and_branch_laws.specs.Variables.{placed}
use Rattle.and_branch_laws.specs.Settling.{Settled, IsWritten}
use Rattle.and_branch_laws.specs.Running.{IsRead}
use Rattle.and_branch_laws.specs.Kept.{item_at, node_item_at, HasFreePair, Kept}
use Rattle.and_branch_laws.proofs.Keeping
use Rattle.and_branch_laws.proofs.Reading.{goal_variable}
use Rattle.and_branch_laws.proofs.Pairs.{free_pair}
use Rattle.and_branch_laws.proofs.Running.{known_in_tree, false_is_dead}
use Rattle.and_branch_laws.proofs.Dropping
use Rattle.and_branch_laws.proofs.Assigning

both_ground : (u v : Term) → is_ground u ≡ true → is_ground v ≡ true → are_ground (more u (more v none)) ≡ true
both_ground u v a b = rw (a, b) refl

one_ground : (u : Term) → is_ground u ≡ true → are_ground (more u none) ≡ true
one_ground u a = rw a refl

-- ---- A goal that is kept

module _ (P : NamedProgram) (loaded : IsLoaded P) (rs : List Reduction) (row : List Ref) (kept : List Framed) (tree : QueryTree P.program)
    (k : Kept P rs row kept tree)
    (f : Framed) (h : Contains kept f) where
  comparison_known : (r : Relation) (a b u v : Term) → item_at P.program f.goal ≡ arithmetic (compare r a b)
      → IsRead P row f.goal.base a u → IsRead P row f.goal.base b v → is_ground u ≡ true → is_ground v ≡ true
      → Known k.solved (compare r (framed f.frame a) (framed f.frame b)) (more u (more v none))
  comparison_known r a b u v item one other first second =
      known_in_tree P loaded.own rs row kept tree k f h (compare r a b) item (more u (more v none)) (one, (other, tt))
      (both_ground u v first second)

  pub comparison_fails : (r : Relation) (a b u v : Term) → item_at P.program f.goal ≡ arithmetic (compare r a b)
      → IsRead P row f.goal.base a u → IsRead P row f.goal.base b v → is_ground u ≡ true → is_ground v ≡ true
      → holds r u v ≡ false → Dead tree
  comparison_fails r a b u v item one other first second is_false =
      false_is_dead P loaded.own rs row kept tree k f h (compare r a b) item (more u (more v none))
      (comparison_known r a b u v item one other first second)
      (ap (λ (x : Bool). cond x [] (falsehood ∷ [])) is_false)

  assignment_known : (l r u : Term) → item_at P.program f.goal ≡ arithmetic (is l r) → IsRead P row f.goal.base r u → is_ground u ≡ true
      → Known k.solved (is (framed f.frame l) (framed f.frame r)) (more u none)
  assignment_known l r u item read ground = known_in_tree P loaded.own rs row kept tree k f h (is l r) item (more u none) (read, tt)
      (one_ground u ground)

  pub no_value_fails : (l r u : Term) → item_at P.program f.goal ≡ arithmetic (is l r) → IsRead P row f.goal.base r u → is_ground u ≡ true
      → value u ≡ None → Dead tree
  no_value_fails l r u item read ground none_is =
      false_is_dead P loaded.own rs row kept tree k f h (is l r) item (more u none) (assignment_known l r u item read ground)
      (ap (equals (framed f.frame l)) none_is)

-- ---- and its place among those that are kept

module _ (P : NamedProgram) (loaded : IsLoaded P) (rs : List Reduction) (row : List Ref) (front : List Framed) (f : Framed)
    (back : List Framed) (tree : QueryTree P.program)
    (k : Kept P rs row (front ++ f ∷ back) tree) where
  f_kept : Contains (front ++ f ∷ back) f
  f_kept = Contains-append_right front (f ∷ back) f (contains_first f back)

  pub comparison_keeps : (r : Relation) (a b u v : Term) → item_at P.program f.goal ≡ arithmetic (compare r a b)
      → IsRead P row f.goal.base a u → IsRead P row f.goal.base b v → is_ground u ≡ true → is_ground v ≡ true
      → holds r u v ≡ true → Kept P rs row (front ++ back) tree
  comparison_keeps r a b u v item one other first second is_true =
      Dropping.added_nothing P loaded.own rs row front f back tree k (compare r a b) item (more u (more v none))
      (comparison_known P loaded rs row (front ++ f ∷ back) tree k f f_kept r a b u v item one other first second)
      (ap (λ (x : Bool). cond x [] (falsehood ∷ [])) is_true)

  module _ (l r u : Term) (z : ℤ) (left right pair : ℕ) (item : item_at P.program f.goal ≡ arithmetic (is l r))
      (node : node_item_at P f.goal ≡ Skeletons.is left right pair)
      (read : IsRead P row f.goal.base r u) (ground : is_ground u ≡ true) (valued : value u ≡ Some z) (mid : List Ref)
      (sound : IsSound P mid)
      (written : IsWritten row mid (pair_of P f.goal.clause.0 f.goal.base pair) z) where
    known : Known k.solved (is (framed f.frame l) (framed f.frame r)) (more u none)
    known = assignment_known P loaded rs row (front ++ f ∷ back) tree k f f_kept l r u item read ground

    pub assignment_fails : (Solvable (equations_of P mid ++ (placed f.goal.base l, number z) ∷ []) → ⊥) → Dead tree
    assignment_fails none_is = Assigning.unsolved_is_dead P loaded rs row front f back tree k l r item u z known valued left right pair
        node mid sound written none_is

    pub assignment_keeps : (new : List Ref) → Settled P mid new ((placed f.goal.base l, number z) ∷ []) → Kept P rs new (front ++ back) tree
    assignment_keeps new x = Assigning.assigned_kept P loaded rs row front f back tree k l r item u z known valued left right pair node
        mid sound written new x

-- ---- Words of a kept goal

pub pair_is_free : (P : NamedProgram) (rs : List Reduction) (row : List Ref) (kept : List Framed) (tree : QueryTree P.program)
    (k : Kept P rs row kept tree) (f : Framed) → Contains kept f
    → (left right pair : ℕ) → node_item_at P f.goal ≡ Skeletons.is left right pair
    → (word_at row (pair_of P f.goal.clause.0 f.goal.base pair) ≡ Free)
    × (word_at row (suc (pair_of P f.goal.clause.0 f.goal.base pair)) ≡ Free)
pair_is_free P rs row kept tree k f h left right pair node =
    free_pair P row f.goal (node_item_at P f.goal) left right pair node
    (All-contains (λ (g : Framed). HasFreePair P row g.goal (node_item_at P g.goal)) kept f k.free h)

pub goal_cells_whole : (P : NamedProgram) (own : OwnVariables P) (rs : List Reduction) (row : List Ref) (kept : List Framed)
    (tree : QueryTree P.program) (k : Kept P rs row kept tree) (f : Framed) → Contains kept f
    → (v : Path × ℕ) → Contains (variables_of (term_of P.program f.goal)) v → is_half (word_at row (f.goal.base + 1 + v.1)) ≡ false
unfolding goal_variable
goal_cells_whole P own rs row kept tree k f h v i =
    subst (λ (n : ℕ). is_half (word_at row (n + 1 + v.1)) ≡ false) (sym (Keeping.base_of P own rs row kept tree k f h))
    (k.whole (f.frame, v.1) (goal_variable P own rs row kept tree k f h v i))
