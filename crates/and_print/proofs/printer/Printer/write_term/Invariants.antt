use Rattle.std.proofs.Common.{List, ◌++◌, ◌+◌, ◌-◌, ◌*◌, ◌^◌, length}
use Rattle.and_model.specs.Terms.{Term, variables_of}
use Rattle.and_model.specs.Lines.{shown}
use Rattle.and_cells.specs.Parts.{named}
use Rattle.and_print.specs.Roots.{Means}
use Rattle.and_print.specs.Tasks.{Piece, AllMean, Owes, in_hand}
use Rattle.and_print.proofs.printer.Printer.write_term.Given as goal

abbrev pub invariant-loop-task : goal.invariant-loop-task
invariant-loop-task g l = record {
  value : Term;
  means : Means (named l.self.loaded.now) l.self.cells.now l.fn.term value;
  pieces : List Piece;
  mean : AllMean (named l.self.loaded.now) l.self.cells.now (l.work.items ++ in_hand l.hand) pieces;
  owes : Owes (named l.self.loaded.now).program.names pieces (variables_of value) (λ vs. shown (named l.self.loaded.now).program.names vs value) l.fn.names
      l.names l.fn.out l.out;
}

-- (Tasks are only put on the stack beside bytes, of which a text has fewer than 2 ^ 64.)
abbrev pub decreases-loop-task : goal.decreases-loop-task
decreases-loop-task g l = 3 * (2 ^ 64 - length l.out) + length (l.work.items ++ in_hand l.hand)
