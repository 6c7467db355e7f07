-- Trees that have all outcomes of a key above them.
use Rattle.std.specs.Prelude.{ℕ, List}
use Rattle.and_model.specs.Programs.{Program}
use Rattle.and_model.specs.Trees.{QueryTree, query_agenda, HasOutcome, Below, code}
use Rattle.and_model.specs.Prefixes.{IsPrefix}

-- Every code that begins with the key and has an outcome, of any weight, agrees with the tree.
abbrev pub Covers : {P : Program} → QueryTree P → List ℕ → Type 0
Covers {P} t key = (u : QueryTree P) → HasOutcome u → IsPrefix key (code u) → Below P (query_agenda P) t u
