use Rattle.std.proofs.Common.{◌≡◌, drop}
use Rattle.and_modes.specs.Known.{environment, are_ground_at}
use Rattle.and_modes.proofs.known.Known.level_of_all.Given as goal

abbrev pub invariant-loop-number : goal.invariant-loop-number
invariant-loop-number l =
    are_ground_at (environment l.self.levels) l.numbers ≡ are_ground_at (environment l.self.levels) (drop l.number-index l.numbers)
