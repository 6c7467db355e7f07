use Rattle.std.proofs.Common.{◌≡◌, ◌≤◌, ◌⊎◌}
use Rattle.and_batch_text.specs.Singles.{blanked}
use Rattle.and_batch_text.proofs.Blanks.{between}
use Rattle.and_batch_text.proofs.blanking.blank.Given as goal

abbrev pub invariant-loop-place : goal.invariant-loop-place
invariant-loop-place l = record {
  from : l.fn.span.start ≤ l.place;
  to : (l.place ≤ l.end) ⊎ (l.place ≡ l.fn.span.start);
  blank : l.bytes ≡ blanked (between l.fn.span.start l.place) 0 l.initial.bytes;
}
