use Rattle.std.proofs.Common.{List, drop}
use Rattle.and_model.specs.Terms.{Term}
use Rattle.and_cells.specs.Parts.{named}
use Rattle.and_print.specs.Goals.{GoalsMean}
use Rattle.and_proof.proofs.NamedAlong.{NamesLeft}
use Rattle.and_proof.proofs.explaining.name_goals.Given as goal

abbrev pub invariant-loop-place : goal.invariant-loop-place
invariant-loop-place g l = (ts : List Term) → GoalsMean (named l.loaded) l.cells l.waiting ts → NamesLeft ts (drop l.place ts) l.initial.names l.names
