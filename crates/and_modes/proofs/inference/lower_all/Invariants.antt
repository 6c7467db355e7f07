use Rattle.and_modes.specs.Kept.{assignment_of}
use Rattle.and_modes.proofs.Looking.{Lowered}
use Rattle.and_modes.proofs.inference.lower_all.Given as goal

abbrev pub invariant-loop-demand : goal.invariant-loop-demand
invariant-loop-demand l = Lowered l.demands (assignment_of l.initial.modes) (assignment_of l.modes) l.fell l.demand-index
