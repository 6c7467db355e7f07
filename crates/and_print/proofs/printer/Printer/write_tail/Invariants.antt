use Rattle.std.proofs.Common.{◌≡◌, ◌++◌, [], ◌∷◌, ◌^◌, ◌-◌, length}
use Rattle.and_model.specs.Terms.{Term, variables_of}
use Rattle.and_model.specs.Lines.{shown_tail}
use Rattle.and_cells.specs.Parts.{named}
use Rattle.and_print.specs.Roots.{Means, RootMeans}
use Rattle.and_print.specs.Tasks.{tail}
use Rattle.and_print.proofs.Owing.{Leaves}
use Rattle.and_print.proofs.printer.Printer.write_tail.Given as goal

abbrev pub invariant-loop-head : goal.invariant-loop-head
invariant-loop-head g l = record {
  left : (t : Term) → Means (named l.self.loaded.now) l.self.cells.now l.fn.tail t
      → (u : Term) × RootMeans (named l.self.loaded.now) l.self.cells.now l.ahead u
      × Leaves (named l.self.loaded.now).program.names (tail u) (variables_of t)
      (λ vs. shown_tail (named l.self.loaded.now).program.names vs t ++ 93 ∷ []) l.fn.names l.names l.fn.out l.out;
  stays : l.work.items ≡ l.fn.work.items;
}

-- (Each turn writes bytes, of which a text has fewer than 2 ^ 64.)
abbrev pub decreases-loop-head : goal.decreases-loop-head
decreases-loop-head g l = 2 ^ 64 - length l.out
