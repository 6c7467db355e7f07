use Rattle.std.proofs.Common.{List, drop, cond, codes, nat_eq}
use Rattle.and_model.specs.Terms.{Term}
use Rattle.and_model.specs.Lines.{shown}
use Rattle.and_cells.specs.Parts.{named}
use Rattle.and_print.specs.Goals.{GoalsMean}
use Rattle.and_print.proofs.Joining.{Left}
use Rattle.and_print.proofs.printer.Printer.write_waiting.Given as goal

abbrev pub invariant-loop-place : goal.invariant-loop-place
invariant-loop-place g l =
    (ts : List Term) → GoalsMean (named l.self.loaded.now) l.self.cells.now l.waiting ts
    → Left (λ t. t) (λ t vs. shown (named l.self.loaded.now).program.names vs t) (codes " with ") ts (drop l.place ts)
    (cond (nat_eq l.place 0) (codes " with ") (codes ", ")) l.initial.names l.names l.initial.out l.out
