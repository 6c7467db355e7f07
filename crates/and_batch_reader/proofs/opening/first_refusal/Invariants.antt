use Rattle.std.specs.Option.{IfSome}
use Rattle.and_batch_text.specs.Refused.{AreRead}
use Rattle.and_batch_text.specs.Views.{spans_of}
use Rattle.and_reader.specs.Beginning.{IsBeginning}
use Rattle.and_batch_reader.proofs.opening.first_refusal.Given as goal

abbrev pub invariant-loop-number : goal.invariant-loop-number
invariant-loop-number l = record {
  read : AreRead l.bytes (spans_of l.spans) l.number;
  kept : IfSome l.kept IsBeginning;
}
