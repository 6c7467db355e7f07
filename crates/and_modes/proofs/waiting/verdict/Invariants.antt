use Rattle.std.specs.Prelude.{ltb, ◌&&◌}
use Rattle.and_program.specs.Loaded.{program_of}
use Rattle.and_modes.specs.Kept.{assignment_of}
use Rattle.and_modes.specs.Waiting.{IsVerdictAmong}
use Rattle.and_modes.proofs.waiting.verdict.Given as goal

abbrev pub invariant-loop-number : goal.invariant-loop-number
invariant-loop-number l = IsVerdictAmong (program_of l.loaded) (assignment_of l.modes) (λ c. ltb 0 c && ltb c l.number) l.found
