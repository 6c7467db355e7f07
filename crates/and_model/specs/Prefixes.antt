-- Prefixes of lists.
use Rattle.std.specs.Prelude.{◌≡◌, List, ◌++◌}

-- the longer list begins with the shorter, and may be it
abbrev pub IsPrefix : {X : Type 0} → List X → List X → Type 0
IsPrefix {X} short long = (rest : List X) × (long ≡ short ++ rest)
