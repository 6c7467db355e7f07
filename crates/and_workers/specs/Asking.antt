-- What a worker asks of the cells for a reduction, by the nodes of its clause (this project's own).
use Rattle.std.specs.Prelude.{ℕ, ◌≡◌, ◌<◌, Bool, true, false, cond, List, [], ◌∷◌, ◌++◌}
use Rattle.and_model.specs.declared.goal.Goal.{Goal}
use Rattle.and_model.specs.declared.numbers.ClauseNo.{ClauseNo}
use Rattle.and_program.specs.Skeletons.{NodeItem, call, equal, is, compare, fail}
use Rattle.and_program.specs.Loaded.{nodes_at}
use Rattle.and_cells.specs.Ranges.{NamedProgram}
use Rattle.and_cells.specs.Parts.{part_at}
use Rattle.and_unify.specs.declared.pairs.Pair.{Pair}
use Rattle.and_store.specs.Passes.{PassSeen}
use Rattle.and_handed.specs.declared.told.Reduced.{Reduced}
use Rattle.and_handed.specs.declared.told.HandedOn.{HandedOn}

-- two nodes, each in its frame
abbrev pub nodes_pair : NamedProgram → (base node floor other : ℕ) → Pair
nodes_pair P b n d m = record { left = part_at P b n; right = part_at P d m }

-- the node of a call in its frame, and the head of the clause in the new one
abbrev pub call_pair : NamedProgram → (base node clause floor : ℕ) → Pair
call_pair P b n c floor = nodes_pair P b n floor (nodes_at P.skeleton c).head

-- the sides of the `=` items, in the new frame
abbrev pub item_pairs : NamedProgram → (floor : ℕ) → List NodeItem → List Pair
item_pairs P floor [] = []
item_pairs P floor (call n ∷ items) = item_pairs P floor items
item_pairs P floor (equal n m ∷ items) = nodes_pair P floor n floor m ∷ item_pairs P floor items
item_pairs P floor (is n m pair ∷ items) = item_pairs P floor items
item_pairs P floor (compare r n m ∷ items) = item_pairs P floor items
item_pairs P floor (fail ∷ items) = item_pairs P floor items

-- the sides of an `=` item are among so many nodes
abbrev pub HasSides : (nodes : ℕ) → NodeItem → Type 0
HasSides nodes (call n) = Unit {0}
HasSides nodes (equal n m) = (n < nodes) × (m < nodes)
HasSides nodes (is n m pair) = Unit {0}
HasSides nodes (compare r n m) = Unit {0}
HasSides nodes fail = Unit {0}

-- the item is `fail`
abbrev pub is_fail : NodeItem → Bool
is_fail (call n) = false
is_fail (equal n m) = false
is_fail (is n m pair) = false
is_fail (compare r n m) = false
is_fail fail = true

-- one of the items is
abbrev pub has_fail : List NodeItem → Bool
has_fail [] = false
has_fail (item ∷ items) = cond (is_fail item) true (has_fail items)

-- One reduction more is told: of the goal by the clause, in the frame that begins at the floor, and judged by this
-- pass. All else stays.
pub record Notes (goal : Goal) (clause : ClauseNo) (floor : ℕ) (judged : PassSeen) (old new : HandedOn) : Type 0 where
  pub one : Reduced
  pub made : new.made.items ≡ old.made.items ++ one ∷ []
  pub goal_is : one.goal ≡ goal
  pub reduction_is : one.reduction ≡ record { parent = goal.node; item = goal.item; clause = clause; node = floor }
  pub judged_is : one.judged.value ≡ judged
  pub ran : new.ran.items ≡ old.ran.items
  pub pairs : new.pairs ≡ old.pairs
  pub cause : new.cause ≡ old.cause
