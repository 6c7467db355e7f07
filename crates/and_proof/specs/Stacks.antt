-- Goals on stacks.
use Rattle.std.specs.Prelude.{ℕ, ◌≡◌, ◌++◌, [], Bool, true, false, List, reverse}
use Rattle.and_model.specs.Stands.{Framed}
use Rattle.and_model.specs.declared.goal.Goal.{Goal}
use Rattle.and_program.specs.Skeletons
use Rattle.and_program.specs.Skeletons.{NodeItem}
use Rattle.and_proof.specs.declared.goals.Ahead.{Ahead}
use Rattle.and_proof.specs.declared.waiting.Waiting.{Waiting}
use Rattle.and_proof.specs.declared.waiting.Way.{Way}
use Rattle.and_proof.specs.declared.waiting.Way.TheVariants.{Onward, Back}

-- The item is a call or arithmetic.
abbrev pub is_goal_item : NodeItem → Bool
is_goal_item (Skeletons.call n) = true
is_goal_item (Skeletons.equal n m) = false
is_goal_item (Skeletons.is n m pair) = true
is_goal_item (Skeletons.compare r n m) = true
is_goal_item Skeletons.fail = false

-- a goal ahead, at that depth
abbrev pub at_depth : ℕ → Framed → Ahead
at_depth depth f = record { goal = f.goal; depth = depth }

-- the goals in two stacks about a place of work, in their order
abbrev pub in_order : Waiting → List Goal
in_order w = w.left.items ++ reverse w.right.items

-- the goals that who goes that way has still to come to, the nearest last,
abbrev pub goals_before : Way → Waiting → List Goal
goals_before Onward w = w.right.items
goals_before Back w = w.left.items

-- and those that were passed
abbrev pub goals_behind : Way → Waiting → List Goal
goals_behind Onward w = w.left.items
goals_behind Back w = w.right.items

-- Behind who goes that way no goal is left,
abbrev pub NoneBehind : Way → Waiting → Type 0
NoneBehind way w = goals_behind way w ≡ []

-- and before.
abbrev pub NoneBefore : Way → Waiting → Type 0
NoneBefore way w = goals_before way w ≡ []
