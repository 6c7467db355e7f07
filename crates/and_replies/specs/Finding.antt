-- What a search finds of the answers that are wanted (this project's own).
use Rattle.std.specs.Prelude.{ℕ, Option, Some, None}
use Rattle.and_model.specs.Programs.{Program}
use Rattle.and_answers.specs.declared.found.Found.{Found}
use Rattle.and_search_laws.specs.Found.{IsFound, FindsFirst}

-- All was found; or, where so many of the first are wanted, so many at least.
abbrev pub Finds : Program → (limit : ℕ) → (wanted : Option ℕ) → Found → Type 0
Finds P limit None found = IsFound P limit found
Finds P limit (Some count) found = FindsFirst P limit count found
