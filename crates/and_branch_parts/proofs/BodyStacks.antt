-- The goals of a body, put at the place of work.
use Rattle.std.proofs.Common.{ℕ, suc, ◌≡◌, ◌<◌, true, false, List, [], ◌∷◌, length, map}
use Rattle.std.proofs.Common.{get_or, drop, refl, ap, sym, ◌∙◌, subst, inl, inr, arith, drop-cons}
use Rattle.std.proofs.lemmas.Bool.{true≢false}
use Rattle.std.proofs.lemmas.List.{length-map, get_or-map}
use Rattle.and_model.specs.Programs.{Item}
use Rattle.and_model.specs.declared.goal.Goal.{Goal}
use Rattle.and_laws.proofs.Equality.{bool_cases}
use Rattle.and_program.specs.Items.{node_item}
use Rattle.and_program.specs.Skeletons
use Rattle.and_program.specs.Skeletons.{Shape, NodeItem, item_of}
use Rattle.and_program.specs.declared.item.ItemNode.{ItemNode}
use Rattle.and_branch_laws.specs.Kept.{goal_of}
use Rattle.and_branch_laws.specs.Reducing.{goal_at}
use Rattle.and_pending.specs.Pending.{Pending, unwatched}
use Rattle.and_branch_parts.specs.Next.{goals_from, is_goal_item, HasPut}

-- With an item before them there is a goal more, or there is not.
pub one_item : (ss : List Shape) (c n i : ℕ) (x : NodeItem) (items : List Item) → is_goal_item x ≡ true
    → goals_from c n i (item_of ss x ∷ items) ≡ goal_of (goal_at c n [] i) ∷ goals_from c n (suc i) items
one_item ss c n i (Skeletons.call m) items e = refl
one_item ss c n i (Skeletons.equal l r) items e = absurd (true≢false (sym e))
one_item ss c n i (Skeletons.is l r pair) items e = refl
one_item ss c n i (Skeletons.compare o l r) items e = refl
one_item ss c n i Skeletons.fail items e = absurd (true≢false (sym e))

pub no_item : (ss : List Shape) (c n i : ℕ) (x : NodeItem) (items : List Item) → is_goal_item x ≡ false
    → goals_from c n i (item_of ss x ∷ items) ≡ goals_from c n (suc i) items
no_item ss c n i (Skeletons.call m) items e = absurd (true≢false e)
no_item ss c n i (Skeletons.equal l r) items e = refl
no_item ss c n i (Skeletons.is l r pair) items e = absurd (true≢false e)
no_item ss c n i (Skeletons.compare o l r) items e = absurd (true≢false e)
no_item ss c n i Skeletons.fail items e = refl

-- the items of a body, by its nodes
abbrev pub body_of : List Shape → List ItemNode → List Item
body_of ss xs = map (item_of ss) (map node_item xs)

-- Goals were put, and one more before them.
put_twice : (gs : List Goal) (g : Goal) (old mid new : Pending) → HasPut gs old mid → HasPut (g ∷ []) mid new → HasPut (g ∷ gs) old new
put_twice gs g old mid new first second =
    second ∙ ap (λ (q : Pending). record { left = q.left; right = unwatched g ∷ q.right }) first

module _ (ss : List Shape) (xs : List ItemNode) (c n i : ℕ) (d : ItemNode) (below : i < length xs) where
  abbrev item : NodeItem
  item = node_item (get_or xs i d)

  rest_is : drop i (body_of ss xs) ≡ item_of ss item ∷ drop (suc i) (body_of ss xs)
  rest_is =
      let long : i < length (map node_item xs) = let e = length-map xs node_item in omega (arith, e, below) in
      let long_too : i < length (body_of ss xs) = let e = length-map (map node_item xs) (item_of ss) in omega (arith, e, long) in
      drop-cons (body_of ss xs) i (item_of ss item) long_too
      ∙ ap (λ (z : Item). z ∷ drop (suc i) (body_of ss xs))
      (get_or-map (item_of ss) (map node_item xs) i item (item_of ss item) long
      ∙ ap (item_of ss) (get_or-map node_item xs i d item below))

  -- An item that is a goal comes before those after it.
  pub goal_first : is_goal_item (node_item (get_or xs i d)) ≡ true
      → goals_from c n i (drop i (body_of ss xs)) ≡ goal_of (goal_at c n [] i) ∷ goals_from c n (suc i) (drop (suc i) (body_of ss xs))
  goal_first is =
      ap (λ (l : List Item). goals_from c n i l) rest_is ∙ one_item ss c n i item (drop (suc i) (body_of ss xs)) is

  -- It was put before them.
  pushed : (place : ℕ) → suc i ≡ place → (old goals new : Pending) → is_goal_item (node_item (get_or xs i d)) ≡ true
      → HasPut (goals_from c n place (drop place (body_of ss xs))) old goals
      → HasPut (goal_of (goal_at c n [] i) ∷ []) goals new
      → HasPut (goals_from c n i (drop i (body_of ss xs))) old new
  pushed place e old goals new is before put =
      let tail : List Item = drop (suc i) (body_of ss xs) in
      let behind : HasPut (goals_from c n (suc i) tail) old goals =
      subst (λ (k : ℕ). HasPut (goals_from c n k (drop k (body_of ss xs))) old goals) (sym e) before in
      subst (λ (gs : List Goal). HasPut gs old new) (sym (goal_first is))
      (put_twice (goals_from c n (suc i) tail) (goal_of (goal_at c n [] i)) old goals new behind put)

  passed : (place : ℕ) → suc i ≡ place → (old goals new : Pending) → is_goal_item (node_item (get_or xs i d)) ≡ false
      → HasPut (goals_from c n place (drop place (body_of ss xs))) old goals → new ≡ goals
      → HasPut (goals_from c n i (drop i (body_of ss xs))) old new
  passed place e old goals new is before same =
      let tail : List Item = drop (suc i) (body_of ss xs) in
      let behind : HasPut (goals_from c n (suc i) tail) old goals =
      subst (λ (k : ℕ). HasPut (goals_from c n k (drop k (body_of ss xs))) old goals) (sym e) before in
      let others : goals_from c n i (drop i (body_of ss xs)) ≡ goals_from c n (suc i) tail =
      ap (λ (l : List Item). goals_from c n i l) rest_is ∙ no_item ss c n i item tail is in
      subst (λ (gs : List Goal). HasPut gs old new) (sym others) (same ∙ behind)

  -- It was put there, if it is a goal.
  pub stacked : (place : ℕ) → suc i ≡ place → (old goals new : Pending)
      → HasPut (goals_from c n place (drop place (body_of ss xs))) old goals
      → (is_goal_item (node_item (get_or xs i d)) ≡ true → HasPut (goal_of (goal_at c n [] i) ∷ []) goals new)
      → (is_goal_item (node_item (get_or xs i d)) ≡ false → new ≡ goals)
      → HasPut (goals_from c n i (drop i (body_of ss xs))) old new
  stacked place e old goals new before put same = elim (bool_cases (is_goal_item (node_item (get_or xs i d)))) [
    | inl is ↦ pushed place e old goals new is before (put is)
    | inr other ↦ passed place e old goals new other before (same other)
  ]
