-- Names that mostly need no memory.
use Rattle.std.specs.Prelude.{ℕ, List, take}
use Rattle.and_program.specs.declared.short.Held.{Held}
use Rattle.and_program.specs.declared.short.Held.TheVariants.{Short, Long}

-- the bytes of a name: the first of an array, or a list
abbrev pub held_bytes : Held → List ℕ
held_bytes (Short bytes n) = take n bytes
held_bytes (Long bytes) = bytes.items
