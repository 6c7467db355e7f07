use Rattle.std.proofs.Common.{◌≡◌, ◌-◌, ◌≤◌, length}
use Rattle.and_batch_text.specs.Views.{place_of, spans_of}
use Rattle.and_batch_text.proofs.Owed.{IsOwed}
use Rattle.and_batch_text.proofs.finding.queries.Given as goal

abbrev pub invariant-reading : goal.invariant-reading
invariant-reading l = record {
  text : l.lexer.text ≡ l.bytes;
  within : l.lexer.place ≤ length l.bytes;
  owed : IsOwed l.bytes l.lexer.place (place_of l.place) (spans_of l.spans.items);
}

abbrev pub decreases-reading : goal.decreases-reading
decreases-reading l = length l.bytes - l.lexer.place
