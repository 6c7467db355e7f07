use Rattle.std.proofs.Common.{◌≡◌, take}
use Rattle.and_batch_text.specs.Singles.{blanked, is_in_one}
use Rattle.and_batch_text.specs.Views.{spans_of}
use Rattle.and_batch_text.proofs.blanking.blank_all.Given as goal

abbrev pub invariant-loop-number : goal.invariant-loop-number
invariant-loop-number l = l.bytes ≡ blanked (is_in_one (spans_of (take l.number l.spans))) 0 l.initial.bytes
