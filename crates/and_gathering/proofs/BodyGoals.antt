-- The goals of a body on a stack.
use Rattle.std.proofs.Common.{ℕ, suc, ◌≡◌, ◌<◌, List, [], ◌∷◌, ◌++◌, length, map}
use Rattle.std.proofs.Common.{get_or, drop, reverse, refl, ap, sym, ◌∙◌, subst, arith, drop-cons, append_assoc}
use Rattle.std.proofs.lemmas.List.{reverse-append, length-map, get_or-map}
use Rattle.and_model.specs.Programs
use Rattle.and_model.specs.Programs.{Item}
use Rattle.and_model.specs.declared.goal.Goal.{Goal}
use Rattle.and_program.specs.Items.{node_item}
use Rattle.and_program.specs.Skeletons.{Shape, item_of}
use Rattle.and_program.specs.declared.item.ItemNode.{ItemNode}
use Rattle.and_branch_laws.specs.Kept.{goal_of}
use Rattle.and_branch_laws.specs.Reducing.{body_goals}
use Rattle.and_gathering.specs.Gathering.{goals_of_item}

-- the goals of a body from an item on
abbrev pub goals_from : (c n i : ℕ) → List Item → List Goal
goals_from c n i items = map goal_of (body_goals c n [] i items)

-- the items of a body, by its nodes
abbrev pub body_of : List Shape → List ItemNode → List Item
body_of ss xs = map (item_of ss) (map node_item xs)

-- The goals of an item come before those of the items after it.
item_first : (c n i : ℕ) (x : Item) (items : List Item) → goals_from c n i (x ∷ items) ≡ goals_of_item c n i x ++ goals_from c n (suc i) items
item_first c n i (Programs.call g) items = refl
item_first c n i (Programs.equal a b) items = refl
item_first c n i (Programs.arithmetic a) items = refl
item_first c n i Programs.fail items = refl

-- An item has at most one goal.
alone : (c n i : ℕ) (x : Item) → reverse (goals_of_item c n i x) ≡ goals_of_item c n i x
alone c n i (Programs.call g) = refl
alone c n i (Programs.equal a b) = refl
alone c n i (Programs.arithmetic a) = refl
alone c n i Programs.fail = refl

module _ (ss : List Shape) (xs : List ItemNode) (c n i : ℕ) (d : ItemNode) (below : i < length xs) where
  abbrev item : Item
  item = item_of ss (node_item (get_or xs i d))

  rest_is : drop i (body_of ss xs) ≡ item ∷ drop (suc i) (body_of ss xs)
  rest_is =
      let long : i < length (map node_item xs) = let e = length-map xs node_item in omega (arith, e, below) in
      let long_too : i < length (body_of ss xs) = let e = length-map (map node_item xs) (item_of ss) in omega (arith, e, long) in
      drop-cons (body_of ss xs) i item long_too
      ∙ ap (λ (z : Item). z ∷ drop (suc i) (body_of ss xs))
      (get_or-map (item_of ss) (map node_item xs) i (node_item (get_or xs i d)) item long
      ∙ ap (item_of ss) (get_or-map node_item xs i d (node_item (get_or xs i d)) below))

  -- The goal of an item was put on the stack, behind those after it.
  pub stacked : (place : ℕ) → suc i ≡ place → (goals new : List Goal) (behind : List Goal)
      → reverse goals ≡ goals_from c n place (drop place (body_of ss xs)) ++ behind
      → new ≡ goals ++ goals_of_item c n i item
      → reverse new ≡ goals_from c n i (drop i (body_of ss xs)) ++ behind
  stacked place e goals new behind old put =
      let tail : List Item = drop (suc i) (body_of ss xs) in
      let before : reverse goals ≡ goals_from c n (suc i) tail ++ behind =
      subst (λ (k : ℕ). reverse goals ≡ goals_from c n k (drop k (body_of ss xs)) ++ behind) (sym e) old in
      ap reverse put ∙ reverse-append goals (goals_of_item c n i item)
      ∙ ap (λ (l : List Goal). l ++ reverse goals) (alone c n i item)
      ∙ ap (λ (l : List Goal). goals_of_item c n i item ++ l) before
      ∙ sym (append_assoc (goals_of_item c n i item) (goals_from c n (suc i) tail) behind)
      ∙ ap (λ (l : List Goal). l ++ behind) (sym (item_first c n i item tail))
      ∙ ap (λ (l : List Item). goals_from c n i l ++ behind) (sym rest_is)
