use Rattle.std.proofs.Common.{◌≡◌, drop, map}
use Rattle.and_model.specs.Lines.{has}
use Rattle.and_lint.specs.Kept.{unframed}
use Rattle.and_lint.proofs.names.is_seen.Given as goal

abbrev pub invariant-loop-other : goal.invariant-loop-other
invariant-loop-other l =
    has (unframed l.number) (map unframed (drop l.other-index l.seen)) ≡ has (unframed l.number) (map unframed l.seen)
