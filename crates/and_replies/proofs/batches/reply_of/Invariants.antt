use Rattle.std.proofs.Common.{◌≡◌, take}
use Rattle.and_replies.specs.Handed.{joined_texts, some_text}
use Rattle.and_replies.proofs.batches.reply_of.Given as goal

abbrev pub invariant-loop-number : goal.invariant-loop-number
invariant-loop-number l = record {
  text : l.out ≡ joined_texts 0 (take l.number l.texts);
  limit : l.seen.limit ≡ some_text 6 (take l.number l.texts);
  floundered : l.seen.floundered ≡ some_text 8 (take l.number l.texts);
  none : l.seen.none ≡ some_text 1 (take l.number l.texts);
}
