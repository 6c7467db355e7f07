use Rattle.std.proofs.Common.{◌≡◌, drop}
use Rattle.and_modes.specs.Known.{environment, all_raised_at}
use Rattle.and_modes.proofs.known.Known.raise_variables.Given as goal

abbrev pub invariant-loop-number : goal.invariant-loop-number
invariant-loop-number l =
    all_raised_at (environment l.initial.self.levels) l.numbers l.level ≡ all_raised_at (environment l.self.levels) (drop l.number-index l.numbers) l.level
