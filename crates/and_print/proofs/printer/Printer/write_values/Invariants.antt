use Rattle.std.proofs.Common.{[], cond, codes}
use Rattle.and_model.specs.Terms.{Substitution}
use Rattle.and_cells.specs.Parts.{named}
use Rattle.and_print.specs.Given.{GivesQuery}
use Rattle.and_print.proofs.Joining.{Left}
use Rattle.and_print.proofs.Showing.{shown_from, IsStill, value_of, value_text}
use Rattle.and_print.proofs.printer.Printer.write_values.Given as goal

abbrev pub invariant-loop-number : goal.invariant-loop-number
invariant-loop-number g l = record {
  still : IsStill l.is_first (shown_from (named l.self.loaded.now).program.query.written 0)
      (shown_from (named l.self.loaded.now).program.query.written l.number);
  left : (s : Substitution) → GivesQuery (named l.self.loaded.now) l.self.cells.now s
      → Left (value_of (named l.self.loaded.now).program.names s) (value_text (named l.self.loaded.now).program.names s) []
      (shown_from (named l.self.loaded.now).program.query.written 0)
      (shown_from (named l.self.loaded.now).program.query.written l.number) (cond l.is_first [] (codes ", ")) l.initial.names l.names l.initial.out l.out;
}
