-- What is compiled of clauses, whatever query is put to them (this project's own).
use Rattle.std.specs.Prelude.{ℕ, ◌<◌}
use Rattle.and_cells.specs.Parts.{named}
use Rattle.and_clause_index.specs.Tables.{IsMade, KnowsCalls}
use Rattle.and_clauses.specs.Asking.{Ground, StandsOn}
use Rattle.and_program.specs.Loaded.{program_of}
use Rattle.and_program.specs.declared.loaded.Loaded.{Loaded}
use Rattle.and_kept_table.specs.declared.kept.KeptTable.{KeptTable}

-- It is that of the clauses of a program, whose calls are known; those of the query may be unknown.
pub record IsCompiled (k : KeptTable) (l : Loaded) : Type 0 where
  pub made : IsMade (program_of l) k.table k.firsts.items
  pub known : (clause : ℕ) → 0 < clause → KnowsCalls (named l) k.table clause

-- so it is for each program that has those clauses
abbrev pub IsKeptOn : Ground → KeptTable → Type 0
IsKeptOn g k = (l : Loaded) → StandsOn g l → IsCompiled k l
