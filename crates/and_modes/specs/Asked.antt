-- What a clause asks of an assignment: that a place has at most the level that its argument is known to have there.
use Rattle.std.specs.Prelude.{ℕ, suc, ◌<◌, ◌≡◌, Bool, true, false, ◌&&◌, cond, nat_eq, List, [], ◌∷◌, ◌++◌}
use Rattle.and_model.specs.Terms.{Term, Terms, none, more}
use Rattle.and_model.specs.Programs.{Clause, Item, call, equal, arithmetic, fail}
use Rattle.and_modes.specs.Modes.{rank, Assignment, Environment, level_in, name_of, arguments_of, count_of, at_entry}
use Rattle.and_modes.specs.Modes.{after_item, after_items, IsAtLeast}
use Rattle.and_modes.specs.declared.level.Level.{Level}
use Rattle.and_modes.specs.declared.level.Side.{Side}
use Rattle.and_modes.specs.declared.level.Side.TheVariants.{Called, Succeeded}
use Rattle.and_modes.specs.declared.demands.Demand.{Demand}

-- what a goal's arguments, from place i on, are known to be
abbrev pub asked_by : Environment → (name count : ℕ) → Side → ℕ → Terms → List Demand
asked_by e name count side i none = []
asked_by e name count side i (more t ts) =
    record {
      place = record { name = record { 0 = name }; arity = count; number = i };
      side = side;
      level = level_in e t;
    } ∷ asked_by e name count side (suc i) ts

-- of a goal or a head
abbrev pub asked_of : Environment → Side → Term → List Demand
asked_of e side goal = asked_by e (name_of goal) (count_of (arguments_of goal)) side 0 (arguments_of goal)

-- an item asks where it is a call
abbrev pub asked_by_item : Environment → Item → List Demand
asked_by_item e (call g) = asked_of e Called g
asked_by_item e (equal a b) = []
asked_by_item e (arithmetic a) = []
asked_by_item e fail = []

-- what the items of a body ask
abbrev pub asked_along : Assignment → Environment → List Item → List Demand
asked_along m e [] = []
asked_along m e (item ∷ items) = asked_by_item e item ++ asked_along m (after_item m e item) items

-- what a clause asks
abbrev pub asked_in : Assignment → Clause → List Demand
asked_in m k = asked_along m (at_entry m k) k.body ++ asked_of (after_items m (at_entry m k) k.body) Succeeded k.head

-- the level of the place of which a demand speaks
abbrev pub level_asked : Assignment → Demand → Level
level_asked m d = m d.place.name.0 d.place.arity d.place.number d.side

-- each demand is met
abbrev pub AllMet : Assignment → List Demand → Type 0
AllMet m [] = Unit {0}
AllMet m (d ∷ ds) = IsAtLeast d.level (level_asked m d) × AllMet m ds

-- the one assignment is at or above the other at every place
abbrev pub IsAtOrAbove : (high low : Assignment) → Type 0
IsAtOrAbove high low = (name count place : ℕ) (side : Side)
    → IsAtLeast (high name count place side) (low name count place side)

abbrev pub same_side : Side → Side → Bool
same_side Called Called = true
same_side Called Succeeded = false
same_side Succeeded Called = false
same_side Succeeded Succeeded = true

-- the place of which a demand speaks
abbrev pub is_asked : Demand → (name count place : ℕ) → Side → Bool
is_asked d name count place side =
    (nat_eq d.place.name.0 name && (nat_eq d.place.arity count && nat_eq d.place.number place)) && same_side d.side side

-- The place falls to the level of the demand, and no other level changes.
abbrev pub Lowers : Demand → (old new : Assignment) → Type 0
Lowers d old new =
    (rank d.level < rank (level_asked old d))
    × ((name count place : ℕ) (side : Side) → new name count place side
    ≡ cond (is_asked d name count place side) d.level (old name count place side))
