-- The settings of an overlay as they are kept.
use Rattle.std.specs.Prelude.{List, map, reverse}
use Rattle.and_cells.specs.Seen.{Seen}
use Rattle.and_overlay.specs.declared.scratch.OwnSetting.{OwnSetting}
use Rattle.and_overlay.specs.Overlaid.{Own}

-- a setting, where `seen` says what contracts see in the cells below
abbrev pub own_of : {C : Type 0} → (C → Seen) → OwnSetting C → Own
own_of seen s = record { place = s.place; value = s.value; before = (seen s.below.value).known }

-- the settings of a list, the newest first
abbrev pub own_in : {C : Type 0} → (C → Seen) → List (OwnSetting C) → List Own
own_in seen settings = reverse (map (own_of seen) settings)
