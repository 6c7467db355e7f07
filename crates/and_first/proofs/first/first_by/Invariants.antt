use Rattle.std.proofs.Common.{◌-◌}
use Rattle.and_program.specs.Loaded.{program_of}
use Rattle.and_first.specs.Steps.{IsSearched}
use Rattle.and_first.proofs.first.first_by.Given as goal

abbrev pub invariant-steps : goal.invariant-steps
invariant-steps g l = IsSearched (program_of l.program.value) l.limit l.count l.step

abbrev pub decreases-steps : goal.decreases-steps
decreases-steps g l = l.limit - l.step
