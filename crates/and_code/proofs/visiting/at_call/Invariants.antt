use Rattle.std.proofs.Common.{◌∷◌, List}
use Rattle.and_program.specs.Loaded.{program_of}
use Rattle.and_branch_laws.specs.Visits
use Rattle.and_code.specs.Visiting.{LeadsTo, visit_of}
use Rattle.and_code.proofs.Turns.{at_item}
use Rattle.and_code.proofs.visiting.at_call.Given as goal

abbrev pub invariant-loop-item : goal.invariant-loop-item
invariant-loop-item l = (vs : List Visits.Visit) → LeadsTo (program_of l._loaded) (visit_of l.visit ∷ vs) (at_item l.visit l.item ∷ vs)
