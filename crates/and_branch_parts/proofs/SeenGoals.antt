-- What a branch keeps are calls and arithmetic, that can be judged and run in its cells.
use Rattle.std.proofs.Common.{◌≡◌, List, [], ◌∷◌, length, map, sym, subst, inl, inr}
use Rattle.std.proofs.Common.{Contains}
use Rattle.std.specs.Prelude.{All}
use Rattle.std.proofs.lemmas.List.Elements.{All-contains}
use Rattle.and_model.specs.Trees.{QueryTree}
use Rattle.and_model.specs.Reductions.{Reduction}
use Rattle.and_model.specs.Stands.{Framed}
use Rattle.and_model.specs.declared.goal.Goal.{Goal}
use Rattle.and_model.specs.declared.reference.Ref.{Ref}
use Rattle.and_cells.specs.Ranges.{NamedProgram, IsGoalInRange}
use Rattle.and_laws.proofs.Ordered.{contains_first, contains_more, contains_cases, contains_none}
use Rattle.and_branch_laws.specs.OwnVariables.{IsLoaded}
use Rattle.and_branch_laws.specs.Kept.{node_item_at, goal_of, HasFreePair, Kept}
use Rattle.and_branch_laws.proofs.Asking.{goal_cells_whole}
use Rattle.and_branch_laws.proofs.Lists.{all_of}
use Rattle.and_reduction.proofs.KeptGoals.{kept_pair_is_unnamed}
use Rattle.and_branch_parts.specs.Finding.{IsSeen}
use Rattle.and_branch_parts.proofs.GoalsRun.{kind_of_kept}

-- What a mapped list contains
pub contains_image : {X Y : Type 0} (f : X → Y) (xs : List X) (x : X) → Contains xs x → Contains (map f xs) (f x)
contains_image f [] x h = absurd (contains_none x h)
contains_image f (y ∷ xs) x h = elim (contains_cases y x xs h) [
  | inl e ↦ subst (λ z. Contains (map f (y ∷ xs)) (f z)) (sym e) (contains_first (f y) (map f xs))
  | inr i ↦ contains_more (f y) (f x) (map f xs) (contains_image f xs x i)
]

pub contains_origin : {X Y : Type 0} (f : X → Y) (xs : List X) (y : Y) → Contains (map f xs) y → (x : X) × Contains xs x × (y ≡ f x)
contains_origin f [] y h = absurd (contains_none y h)
contains_origin f (x ∷ xs) y h = elim (contains_cases (f x) y (map f xs) h) [
  | inl e ↦ (x, contains_first x xs, e)
  | inr i ↦ let (z, at, is) = contains_origin f xs y i in (z, contains_more x z xs at, is)
]

module _ (P : NamedProgram) (loaded : IsLoaded P) (rs : List Reduction) (row : List Ref) (kept : List Framed)
    (tree : QueryTree P.program) (k : Kept P rs row kept tree) where
  pub goal_seen : (f : Framed) → Contains kept f → IsSeen P row f.goal
  goal_seen f h = record {
    in_range = All-contains (λ (g : Framed). IsGoalInRange P (length row) g.goal) kept f k.in_range h;
    kind = kind_of_kept P loaded.own rs row kept tree k f h;
    whole = λ v i. goal_cells_whole P loaded.own rs row kept tree k f h v i;
    free = All-contains (λ (g : Framed). HasFreePair P row g.goal (node_item_at P g.goal)) kept f k.free h;
    unnamed = kept_pair_is_unnamed P loaded rs row kept tree k f h;
  }

  -- All can be judged and run.
  pub kept_seen : (gs : List Goal) → map goal_of kept ≡ gs → All (IsSeen P row) gs
  kept_seen gs e = subst (λ (l : List Goal). All (IsSeen P row) l) e
      (all_of (IsSeen P row) (map goal_of kept) (λ g i.
      let (f, h, same) = contains_origin goal_of kept g i in
      subst (λ (x : Goal). IsSeen P row x) (sym same) (goal_seen f h)))
