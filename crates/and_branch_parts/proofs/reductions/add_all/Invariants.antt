use Rattle.std.proofs.Common.{◌≡◌, ◌+◌, ◌++◌, drop}
use Rattle.and_program.specs.Loaded.{program_of}
use Rattle.and_code.specs.Written.{all_written}
use Rattle.and_branch_parts.specs.Weights.{weights_of}
use Rattle.and_branch_parts.proofs.reductions.add_all.Given as goal

abbrev pub invariant-loop-place : goal.invariant-loop-place
invariant-loop-place l =
    (all_written l.reductions ++ all_written (drop l.place l.made) ≡ all_written l.initial.reductions ++ all_written l.made)
    × (l.weight + weights_of (program_of l.loaded) (all_written (drop l.place l.made))
    ≡ l.used + weights_of (program_of l.loaded) (all_written l.made))
