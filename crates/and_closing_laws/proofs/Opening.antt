-- The goals with which a phase opens.
use Rattle.std.proofs.Common.{ℕ, ◌≡◌, ◌≢◌, ◌<◌, List, [], ◌∷◌, map, All, AllPairs, Contains, ap, sym, ◌∙◌, subst, arith}
use Rattle.std.proofs.lemmas.List.Elements.{All-contains, All-map}
use Rattle.std.proofs.lemmas.List.Kept.{AllPairs-cons}
use Rattle.and_model.specs.Programs.{clause_at}
use Rattle.and_model.specs.Trees.{QueryTree, weight}
use Rattle.and_model.specs.Reductions.{Reduction}
use Rattle.and_model.specs.Stands.{Framed, IsFramed, ClauseHas}
use Rattle.and_model.specs.declared.goal.Goal.{Goal}
use Rattle.and_model.specs.declared.reference.Ref.{Ref}
use Rattle.and_cells.specs.Ranges.{NamedProgram}
use Rattle.and_branch_laws.specs.Kept.{Kept, goal_of}
use Rattle.and_branch_laws.proofs.Places.{clause_once, frame_within}
use Rattle.and_store_laws.proofs.Lists.{map_contains}
use Rattle.and_store_laws.proofs.Pairwise.{all_pairs_none, all_pairs_first, all_pairs_rest}
use Rattle.and_closing_laws.proofs.Tiling.{weighs}
use Rattle.and_closing_laws.proofs.Walking.{Apart}

-- What holds of each and of each two holds of each two together.
pub pairs_with : {X : Type 0} (Q : X → Type 0) (R S : X → X → Type 0) (xs : List X) → ((x y : X) → Q x → Q y → R x y → S x y) → All Q xs
    → AllPairs R xs → AllPairs S xs
pairs_with Q R S xs f q r i j d low high = f _ _ (q i d (omega arith)) (q j d high) (r i j d low high)

pub pairs_of_map : {X Y : Type 0} (R : Y → Y → Type 0) (f : X → Y) (xs : List X) → AllPairs (λ (a b : X). R (f a) (f b)) xs → AllPairs R (map f xs)
pairs_of_map R f [] pairs = all_pairs_none R
pairs_of_map {X} R f (x ∷ xs) pairs =
    AllPairs-cons R (f x) (map f xs) (All-map (R (f x)) f xs (all_pairs_first (λ (a b : X). R (f a) (f b)) x xs pairs))
    (pairs_of_map R f xs (all_pairs_rest (λ (a b : X). R (f a) (f b)) x xs pairs))

goal_by : (node item clause base : ℕ) → Goal
goal_by n i c b = record { node = n; item = i; clause = record { 0 = c }; base = b }

-- Goals that agree in this are one.
pub same_goal : (g h : Goal) → g.node ≡ h.node → g.item ≡ h.item → g.clause.0 ≡ h.clause.0 → g.base ≡ h.base → g ≡ h
unfolding goal_by
same_goal g h n i c b =
    ap (λ (k : ℕ). goal_by k g.item g.clause.0 g.base) n ∙ ap (λ (k : ℕ). goal_by h.node k g.clause.0 g.base) i
    ∙ ap (λ (k : ℕ). goal_by h.node h.item k g.base) c ∙ ap (λ (k : ℕ). goal_by h.node h.item h.clause.0 k) b

module _ (P : NamedProgram) (rs : List Reduction) (first : List Ref) (kept : List Framed) (t : QueryTree P.program) (k : Kept P rs first kept t) where
  -- what is known of each of them
  record IsOld (f : Framed) : Type 0 where
    framed : IsFramed rs f
    based : f.goal.base ≡ f.goal.node

  all_old : All IsOld kept
  all_old i d low = record { framed = k.has.framed i d low; based = k.has.based i d low }

  kept_apart : (f g : Framed) → IsOld f → IsOld g → f.goal ≢ g.goal → Apart f.goal g.goal
  kept_apart f g a b other n i =
      let c = clause_once P.program rs t k.has.made f.goal.node f.goal.clause.0 g.goal.clause.0 a.framed.1
      (subst (λ (m : ℕ). ClauseHas rs m g.goal.clause.0) (sym n) b.framed.1) in
      other (same_goal f.goal g.goal n i c (a.based ∙ n ∙ sym b.based))

  -- No two are the same item of one clause,
  pub goals_apart : AllPairs Apart (map goal_of kept)
  goals_apart =
      pairs_of_map Apart goal_of kept
      (pairs_with IsOld (λ (f g : Framed). f.goal ≢ g.goal) (λ (f g : Framed). Apart f.goal g.goal) kept kept_apart all_old k.has.once)

  -- and each stands in the tree.
  pub goals_old : (x : Goal) → Contains (map goal_of kept) x → x.node < weight t
  goals_old x h =
      let f = map_contains goal_of x kept h in
      let old = All-contains IsOld kept f.0 all_old f.1 in
      let within = frame_within P.program rs t k.has.made f.0.goal.node f.0.goal.clause.0 old.framed.1 in
      let some = weighs (clause_at P.program f.0.goal.clause.0) in
      let same : f.0.goal.node ≡ x.node = ap (λ (g : Goal). g.node) f.2 in omega arith
