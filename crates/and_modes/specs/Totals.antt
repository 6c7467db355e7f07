-- How high an assignment is: the sum of the ranks of all places that a value of the code can name.
use Rattle.std.specs.Prelude.{ℕ, zero, suc, ◌+◌, ◌^◌}
use Rattle.and_modes.specs.Modes.{rank, Assignment}
use Rattle.and_modes.specs.declared.level.Side.TheVariants.{Called, Succeeded}

-- the sum of f below n
unfoldable pub sum_below : ℕ → (ℕ → ℕ) → ℕ
sum_below zero f = 0
sum_below (suc n) f = f n + sum_below n f

-- the ranks of a place on both sides
abbrev pub of_place : Assignment → (name count place : ℕ) → ℕ
of_place m name count place = rank (m name count place Called) + rank (m name count place Succeeded)

-- the ranks of the places of a predicate
abbrev pub of_predicate : Assignment → (name count : ℕ) → ℕ
of_predicate m name count = sum_below 256 (of_place m name count)

-- the ranks of the places under a name
abbrev pub of_name : Assignment → (name : ℕ) → ℕ
of_name m name = sum_below 256 (of_predicate m name)

unfoldable pub height : Assignment → ℕ
height m = sum_below (2 ^ 32) (of_name m)
