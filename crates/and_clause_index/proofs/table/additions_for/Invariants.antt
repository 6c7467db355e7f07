use Rattle.std.proofs.Common.{◌≡◌, take}
use Rattle.and_program.specs.Loaded.{program_of}
use Rattle.and_clause_index.specs.Tables.{additions_of}
use Rattle.and_clause_index.proofs.table.additions_for.Given as goal

abbrev pub invariant-loop-clause : goal.invariant-loop-clause
invariant-loop-clause l = l.additions.items ≡ additions_of (program_of l.loaded) (take l.clause-index l.clauses)
