use Rattle.std.proofs.Common.{ℕ, ◌<◌}
use Rattle.and_cells.specs.Parts.{named}
use Rattle.and_clause_index.specs.Tables.{IsMade, KnowsCalls}
use Rattle.and_program.specs.Loaded.{program_of}
use Rattle.and_kept_table.proofs.kept.KeptTable.of.Given as goal

abbrev pub invariant-loop-number : goal.invariant-loop-number
invariant-loop-number l = record {
  made : IsMade (program_of l.loaded) l.table l.firsts.items;
  known : (clause : ℕ) → 0 < clause → clause < l.number → KnowsCalls (named l.loaded) l.table clause;
}
