use Rattle.std.proofs.Common.{◌≡◌, [], drop}
use Rattle.and_first_argument.specs.Additions.{keys_after}
use Rattle.and_first_argument.proofs.first_arguments.count_keys.Given as goal

abbrev pub invariant-loop-addition : goal.invariant-loop-addition
invariant-loop-addition l = keys_after l.keys.keys (drop l.addition-index l.additions) ≡ keys_after [] l.additions
