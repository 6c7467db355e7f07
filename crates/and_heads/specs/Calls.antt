-- A call that is settled with the head of a clause.
use Rattle.std.specs.Prelude.{ℕ, ◌≡◌, List, [], ◌∷◌}
use Rattle.and_cells.specs.Ranges.{NamedProgram, IsNodeInRange}
use Rattle.and_cells.specs.Parts.{part_at}
use Rattle.and_unify.specs.declared.pairs.Pair.{Pair}
use Rattle.and_heads.specs.declared.parts.Part.{Part}
use Rattle.and_heads.specs.Parts.{HasShape, both_of}

-- the node of a call in the frame at the base, and that of a head in the frame at the floor, as the one pair of a list
abbrev pub call_and_head : NamedProgram → (base call floor head : ℕ) → List Pair
call_and_head P base call floor head = record { left = part_at P base call; right = part_at P floor head } ∷ []

-- The part is that pair, and its structures have one name and number of arguments.
abbrev pub IsCallPart : NamedProgram → (base call floor head : ℕ) → Part → Type 0
IsCallPart P base call floor head part = (call_and_head P base call floor head ≡ both_of part ∷ [])
    × ((words : ℕ) → IsNodeInRange P words call base → IsNodeInRange P words head floor → HasShape P words part)
