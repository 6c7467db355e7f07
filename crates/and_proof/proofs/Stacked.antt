-- The goals of a body, put on a stack.
use Rattle.std.proofs.Common.{ℕ, suc, ◌≡◌, ◌<◌, true, false, List, [], ◌∷◌, ◌++◌, length, map, reverse, append_assoc}
use Rattle.std.proofs.Common.{get_or, drop, refl, ap, sym, ◌∙◌, subst, inl, inr, arith, drop-cons}
use Rattle.std.proofs.lemmas.Bool.{true≢false}
use Rattle.std.proofs.lemmas.List.{length-map, get_or-map, reverse-append}
use Rattle.and_model.specs.Terms.{Path}
use Rattle.and_model.specs.Programs.{Item, call, equal, arithmetic, fail}
use Rattle.and_laws.proofs.Equality.{bool_cases}
use Rattle.and_program.specs.Items.{node_item}
use Rattle.and_program.specs.Skeletons
use Rattle.and_program.specs.Skeletons.{Shape, NodeItem, item_of}
use Rattle.and_program.specs.declared.item.ItemNode.{ItemNode}
use Rattle.and_branch_laws.specs.Reducing.{goal_at, body_goals}
use Rattle.and_proof.specs.Stacks.{is_goal_item, at_depth}
use Rattle.and_proof.specs.Unfolding.{ahead_of}
use Rattle.and_proof.specs.declared.goals.Ahead.{Ahead}

-- the goals of a body from an item on
abbrev pub goals_from : (depth c n i : ℕ) → List Item → List Ahead
goals_from depth c n i items = map (at_depth depth) (body_goals c n [] i items)

abbrev one : (depth c n i : ℕ) → Ahead
one depth c n i = at_depth depth (goal_at c n [] i)

-- With an item before them there is a goal more, or there is not.
one_item : (ss : List Shape) (depth c n i : ℕ) (x : NodeItem) (items : List Item) → is_goal_item x ≡ true
    → goals_from depth c n i (item_of ss x ∷ items) ≡ one depth c n i ∷ goals_from depth c n (suc i) items
one_item ss depth c n i (Skeletons.call m) items e = refl
one_item ss depth c n i (Skeletons.equal l r) items e = absurd (true≢false (sym e))
one_item ss depth c n i (Skeletons.is l r pair) items e = refl
one_item ss depth c n i (Skeletons.compare o l r) items e = refl
one_item ss depth c n i Skeletons.fail items e = absurd (true≢false (sym e))

no_item : (ss : List Shape) (depth c n i : ℕ) (x : NodeItem) (items : List Item) → is_goal_item x ≡ false
    → goals_from depth c n i (item_of ss x ∷ items) ≡ goals_from depth c n (suc i) items
no_item ss depth c n i (Skeletons.call m) items e = absurd (true≢false e)
no_item ss depth c n i (Skeletons.equal l r) items e = refl
no_item ss depth c n i (Skeletons.is l r pair) items e = absurd (true≢false e)
no_item ss depth c n i (Skeletons.compare o l r) items e = absurd (true≢false e)
no_item ss depth c n i Skeletons.fail items e = refl

-- the items of a body, by its nodes
abbrev pub body_of : List Shape → List ItemNode → List Item
body_of ss xs = map (item_of ss) (map node_item xs)

reverse_first : {X : Type 0} (x : X) (xs : List X) → reverse (x ∷ xs) ≡ reverse xs ++ x ∷ []
reverse_first x xs = reverse-append (x ∷ []) xs

-- These goals were put on the stack, the first of them last.
abbrev pub AreOn : List Ahead → (old new : List Ahead) → Type 0
AreOn gs old new = new ≡ old ++ reverse gs

on_once : (g : Ahead) (gs old mid new : List Ahead) → AreOn gs old mid → new ≡ mid ++ g ∷ [] → AreOn (g ∷ gs) old new
on_once g gs old mid new first second =
    second ∙ ap (λ l. l ++ g ∷ []) first ∙ append_assoc old (reverse gs) (g ∷ []) ∙ ap (λ l. old ++ l) (sym (reverse_first g gs))

module _ (ss : List Shape) (xs : List ItemNode) (depth c n i : ℕ) (d : ItemNode) (below : i < length xs) where
  abbrev item : NodeItem
  item = node_item (get_or xs i d)

  rest_is : drop i (body_of ss xs) ≡ item_of ss (node_item (get_or xs i d)) ∷ drop (suc i) (body_of ss xs)
  rest_is =
      let long : i < length (map node_item xs) = let e = length-map xs node_item in omega (arith, e, below) in
      let long_too : i < length (body_of ss xs) = let e = length-map (map node_item xs) (item_of ss) in omega (arith, e, long) in
      drop-cons (body_of ss xs) i (item_of ss item) long_too
      ∙ ap (λ (z : Item). z ∷ drop (suc i) (body_of ss xs))
      (get_or-map (item_of ss) (map node_item xs) i item (item_of ss item) long
      ∙ ap (item_of ss) (get_or-map node_item xs i d item below))

  -- An item was put on the stack, if it is a goal.
  pub stacked : (place : ℕ) → suc i ≡ place → (old mid new : List Ahead) → AreOn (goals_from depth c n place (drop place (body_of ss xs))) old mid
      → (is_goal_item (node_item (get_or xs i d)) ≡ true → new ≡ mid ++ one depth c n i ∷ [])
      → (is_goal_item (node_item (get_or xs i d)) ≡ false → new ≡ mid)
      → AreOn (goals_from depth c n i (drop i (body_of ss xs))) old new
  stacked place e old mid new before put same =
      let tail : List Item = drop (suc i) (body_of ss xs) in
      let behind : AreOn (goals_from depth c n (suc i) tail) old mid =
      subst (λ (k : ℕ). AreOn (goals_from depth c n k (drop k (body_of ss xs))) old mid) (sym e) before in
      elim (bool_cases (is_goal_item (node_item (get_or xs i d)))) [
        | inl is ↦
            let more : goals_from depth c n i (drop i (body_of ss xs)) ≡ one depth c n i ∷ goals_from depth c n (suc i) tail =
            ap (λ (l : List Item). goals_from depth c n i l) rest_is ∙ one_item ss depth c n i item tail is in
            subst (λ (gs : List Ahead). AreOn gs old new) (sym more)
            (on_once (one depth c n i) (goals_from depth c n (suc i) tail) old mid new behind (put is))
        | inr other ↦
            let others : goals_from depth c n i (drop i (body_of ss xs)) ≡ goals_from depth c n (suc i) tail =
            ap (λ (l : List Item). goals_from depth c n i l) rest_is ∙ no_item ss depth c n i item tail other in
            subst (λ (gs : List Ahead). AreOn gs old new) (sym others) (same other ∙ behind)
      ]

-- The goals of a body in the frame of a path, with the depth of that.
pub depths_are : (c n : ℕ) (q : Path) (i : ℕ) (items : List Item)
    → map ahead_of (body_goals c n q i items) ≡ map (at_depth (suc (length q))) (body_goals c n [] i items)
depths_are c n q i [] = refl
depths_are c n q i (call g ∷ items) = ap (λ l. one (suc (length q)) c n i ∷ l) (depths_are c n q (suc i) items)
depths_are c n q i (equal a b ∷ items) = depths_are c n q (suc i) items
depths_are c n q i (arithmetic a ∷ items) = ap (λ l. one (suc (length q)) c n i ∷ l) (depths_are c n q (suc i) items)
depths_are c n q i (fail ∷ items) = depths_are c n q (suc i) items
