-- The items of bodies that values of the code stand for, and what a body weighs.
use Rattle.std.specs.Prelude.{Bool, true, false, ℕ, suc, List, [], ◌∷◌}
use Rattle.and_model.specs.Arithmetic as arithmetic
use Rattle.and_model.specs.declared.relation.Relation.{Relation}
use Rattle.and_model.specs.declared.relation.Relation.TheVariants.{Less, Greater, AtMost, AtLeast, Same, Differs}
use Rattle.and_program.specs.Skeletons.{NodeItem, call, equal, is, compare, fail}
use Rattle.and_program.specs.declared.item.ItemNode.{ItemNode}
use Rattle.and_program.specs.declared.item.ItemNode.TheVariants.{Call, Equal, Is, Compare, Fail}

-- the relation that a value of the code stands for
abbrev pub relation : Relation → arithmetic.Relation
relation Less = arithmetic.less
relation Greater = arithmetic.greater
relation AtMost = arithmetic.at_most
relation AtLeast = arithmetic.at_least
relation Same = arithmetic.same
relation Differs = arithmetic.differs

-- the item that a value of the code stands for
abbrev pub node_item : ItemNode → NodeItem
node_item (Call g) = call g.0
node_item (Equal l r) = equal l.0 r.0
node_item (Is l r pair) = is l.0 r.0 pair
node_item (Compare o l r) = compare (relation o) l.0 r.0
node_item Fail = fail

-- the item is a call
abbrev pub is_call_node : NodeItem → Bool
is_call_node (call n) = true
is_call_node (equal n m) = false
is_call_node (is n m pair) = false
is_call_node (compare o n m) = false
is_call_node fail = false

-- how many `is` goals there are
abbrev pub pairs : List NodeItem → ℕ
pairs [] = 0
pairs (call n ∷ items) = pairs items
pairs (equal n m ∷ items) = pairs items
pairs (is n m pair ∷ items) = suc (pairs items)
pairs (compare r n m ∷ items) = pairs items
pairs (fail ∷ items) = pairs items

-- how many comparisons come before anything else
abbrev pub guard_length : List NodeItem → ℕ
guard_length [] = 0
guard_length (call n ∷ items) = 0
guard_length (equal n m ∷ items) = 0
guard_length (is n m pair ∷ items) = 0
guard_length (compare r n m ∷ items) = suc (guard_length items)
guard_length (fail ∷ items) = 0
