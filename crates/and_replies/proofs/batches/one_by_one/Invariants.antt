use Rattle.std.proofs.Common.{◌≡◌, length}
use Rattle.std.specs.Option.{IfSome}
use Rattle.and_batch.specs.Working.{IsDueAtEach}
use Rattle.and_batch_text.specs.Views.{spans_of}
use Rattle.and_replies.specs.Handed.{IsDue}
use Rattle.and_replies.specs.Keeping.{IsKept}
use Rattle.and_questions.specs.Replied.{IsRunOf}
use Rattle.and_replies.proofs.batches.one_by_one.Given as goal

abbrev pub invariant-loop-number : goal.invariant-loop-number
invariant-loop-number g l = record {
  count : length l.texts ≡ l.number;
  due : IsDueAtEach (IsDue (IsRunOf l.limit) l.bytes (spans_of l.spans)) l.texts;
  kept : IfSome l.kept IsKept;
}
