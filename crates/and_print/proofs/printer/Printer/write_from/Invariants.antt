use Rattle.std.proofs.Common.{◌++◌, [], ◌∷◌, ◌-◌, ◌^◌, ◌≤◌, length}
use Rattle.and_model.specs.Terms.{Term, Terms, variables_of, variables_in}
use Rattle.and_model.specs.Lines.{shown, shown_rest}
use Rattle.and_cells.specs.Parts.{named}
use Rattle.and_print.specs.Roots.{Means, ArgumentsMean}
use Rattle.and_print.specs.Tasks.{whole, rest, Owes}
use Rattle.and_print.proofs.printer.Printer.write_from.Given as goal

abbrev pub invariant-writing : goal.invariant-writing
invariant-writing g l =
    (t : Term) → Means (named l.self.loaded.now) l.self.cells.now l.fn.first t
    → (ts : Terms) → ArgumentsMean (named l.self.loaded.now) l.self.cells.now l.fn.rest ts
    → (u : Term) × (us : Terms) × Means (named l.self.loaded.now) l.self.cells.now l.ahead u
    × ArgumentsMean (named l.self.loaded.now) l.self.cells.now l.behind us
    × Owes (named l.self.loaded.now).program.names (rest us ∷ whole u ∷ []) (variables_of t ++ variables_in ts)
    (λ vs. shown (named l.self.loaded.now).program.names vs t ++ shown_rest (named l.self.loaded.now).program.names vs ts) l.fn.names l.names l.fn.out l.out
    × (length l.fn.out ≤ length l.out)

-- (Each turn writes bytes, of which a text has fewer than 2 ^ 64.)
abbrev pub decreases-writing : goal.decreases-writing
decreases-writing g l = 2 ^ 64 - length l.out
