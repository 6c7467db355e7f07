-- What is kept from one query of a text to the next (this project's own).
use Rattle.std.specs.Prelude.{IfSome}
use Rattle.and_kept_table.specs.KeptTables.{IsKeptOn}
use Rattle.and_reader.specs.Beginning.{IsBeginning, beginning_ground}
use Rattle.and_replies.specs.declared.parts.Kept.{Kept}

-- The clauses are those with which each text begins that has these first bytes, and what is compiled is compiled of
-- them.
abbrev pub IsKept : Kept → Type 0
IsKept k = IsBeginning k.beginning × IfSome k.table (IsKeptOn (beginning_ground k.beginning))
