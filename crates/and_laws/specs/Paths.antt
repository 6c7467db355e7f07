-- The clauses of a tree by their paths.
use Rattle.std.specs.Prelude.{ℕ, ◌≡◌, ◌⊎◌}
use Rattle.and_model.specs.Terms.{Path}
use Rattle.and_model.specs.Programs.{Program}
use Rattle.and_model.specs.Trees.{Agenda, Tree, done, left, by, equate, reckon}

-- the tree has this clause at this path
abbrev pub At : {P : Program} {ag : Agenda} → Tree P ag → Path → ℕ → Type 0
At done p d = ⊥
At (left t) p d = At t p d
At (by {q = q} c h t) p d = ((p ≡ q) × (d ≡ c)) ⊎ At t p d
At (equate t) p d = At t p d
At (reckon t) p d = At t p d
