use Rattle.std.proofs.Common.{◌≡◌, ◌+◌, drop, map}
use Rattle.and_model.specs.Lines.{place_of}
use Rattle.and_lint.specs.Kept.{unframed}
use Rattle.and_lint.proofs.names.place_of.Given as goal

abbrev pub invariant-loop-place : goal.invariant-loop-place
invariant-loop-place l =
    l.place + place_of (unframed l.number) (map unframed (drop l.place l.seen)) ≡ place_of (unframed l.number) (map unframed l.seen)
