use Rattle.std.proofs.Common.{◌≡◌, ◌<◌, ◌≤◌, length}
use Rattle.std.specs.Prelude.{All, vec_len, vec_capacity}
use Rattle.and_model.specs.declared.goal.Reduction.{Reduction}
use Rattle.and_code.specs.Places.{AreLinked}
use Rattle.and_code.proofs.places.Links.of.Given as goal

abbrev pub invariant-loop-place : goal.invariant-loop-place
invariant-loop-place l = record {
  room : All (λ (r : Reduction). r.parent < length l.last.items) l.reductions;
  many : vec_len l.before ≡ l.place;
  reserved : length l.reductions ≤ vec_capacity l.before;
  linked : AreLinked l.reductions l.last.items l.before.items l.place;
}
