use Rattle.std.proofs.Common.{ℕ, ◌≡◌, ◌<◌, length, get_or}
use Rattle.and_model.specs.Programs.{clause_at}
use Rattle.and_program.specs.Loaded.{program_of}
use Rattle.and_clause_index.specs.Prints.{print_of, no_print}
use Rattle.and_clause_index.proofs.prints.prints_of.Given as goal

abbrev pub invariant-loop-number : goal.invariant-loop-number
invariant-loop-number l = record {
  many : length l.prints.items ≡ l.number;
  each : (c : ℕ) → c < l.number → get_or l.prints.items c no_print ≡ print_of (clause_at (program_of l.loaded) c).head;
}
