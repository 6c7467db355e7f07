use Rattle.std.proofs.Common.{◌≡◌, drop}
use Rattle.and_modes.specs.Known.{environment}
use Rattle.and_modes.specs.Waiting.{first_unknown}
use Rattle.and_modes.proofs.waiting.first_of.Given as goal

abbrev pub invariant-loop-number : goal.invariant-loop-number
invariant-loop-number l =
    first_unknown (environment l.known.levels) l.numbers ≡ first_unknown (environment l.known.levels) (drop l.number-index l.numbers)
