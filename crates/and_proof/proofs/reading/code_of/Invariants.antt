use Rattle.std.proofs.Common.{List, length}
use Rattle.and_proof.specs.Entries.{Entry, HasEntries}
use Rattle.and_proof.proofs.EntryParts.{EntriesLeft}
use Rattle.and_proof.proofs.reading.code_of.Given as goal

-- Whatever entries the text has, some of them were read, and the others follow.
abbrev pub invariant-loop-clause : goal.invariant-loop-clause
invariant-loop-clause l = (es : List Entry) → HasEntries l.text es → EntriesLeft es l.code l.rest

abbrev pub decreases-loop-clause : goal.decreases-loop-clause
decreases-loop-clause l = length l.rest
