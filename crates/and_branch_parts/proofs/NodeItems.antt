-- The items of goals, by their nodes.
use Rattle.std.proofs.Common.{ℕ, ◌≡◌, ◌<◌, true, false, List, length, map, get_or, refl, ap, sym, ◌∙◌, inl, inr, ◌⊎◌, arith}
use Rattle.std.proofs.lemmas.Bool.{true≢false}
use Rattle.std.proofs.lemmas.List.{get_or-map, length-map}
use Rattle.and_model.specs.Terms.{Term}
use Rattle.and_model.specs.Programs.{Item, call, arithmetic, fail, Arithmetic}
use Rattle.and_program.specs.Items.{node_item}
use Rattle.and_program.specs.Skeletons
use Rattle.and_program.specs.Skeletons.{Shape, NodeItem, item_of, node_term}
use Rattle.and_program.specs.declared.item.ItemNode.{ItemNode}
use Rattle.and_program.specs.Items.{is_call_node}
use Rattle.and_branch_parts.proofs.BodyStacks.{body_of}

-- an item of a body is that of its nodes
pub item_is : (ss : List Shape) (xs : List ItemNode) (i : ℕ) (d : ItemNode) → i < length xs
    → get_or (body_of ss xs) i fail ≡ item_of ss (node_item (get_or xs i d))
item_is ss xs i d below =
    let long : i < length (map node_item xs) = let e = length-map xs node_item in omega (arith, e, below) in
    get_or-map (item_of ss) (map node_item xs) i (node_item (get_or xs i d)) fail long
    ∙ ap (item_of ss) (get_or-map node_item xs i d (node_item (get_or xs i d)) below)

-- what is called is a call,
pub called : (ss : List Shape) (x : NodeItem) → is_call_node x ≡ true → (term : Term) × (item_of ss x ≡ call term)
called ss (Skeletons.call n) e = (node_term ss n, refl)
called ss (Skeletons.equal n m) e = absurd (true≢false (sym e))
called ss (Skeletons.is n m pair) e = absurd (true≢false (sym e))
called ss (Skeletons.compare r n m) e = absurd (true≢false (sym e))
called ss Skeletons.fail e = absurd (true≢false (sym e))

-- and another goal is arithmetic
not_call : (ss : List Shape) (x : NodeItem) → is_call_node x ≡ false → (term : Term) → item_of ss x ≡ call term → ⊥
not_call ss (Skeletons.call n) e term f = true≢false e
not_call ss (Skeletons.equal n m) e term f = cc
not_call ss (Skeletons.is n m pair) e term f = cc
not_call ss (Skeletons.compare r n m) e term f = cc
not_call ss Skeletons.fail e term f = cc

pub other_goal : (ss : List Shape) (x : NodeItem) (i : Item) → is_call_node x ≡ false → i ≡ item_of ss x
    → ((term : Term) × (i ≡ call term)) ⊎ ((a : Arithmetic) × (i ≡ arithmetic a)) → (a : Arithmetic) × (i ≡ arithmetic a)
other_goal ss x i e is (inl c) = absurd (not_call ss x e c.0 (sym is ∙ c.1))
other_goal ss x i e is (inr a) = a
