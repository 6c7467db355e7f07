use Rattle.std.proofs.Common.{length}
use Rattle.and_reader.proofs.Going.{IsGoing, left}
use Rattle.and_reader.proofs.reading.Reader.read.Given as goal

abbrev pub invariant-reading : goal.invariant-reading
invariant-reading l = IsGoing l.bytes l.self l.lexer l.next

abbrev pub decreases-reading : goal.decreases-reading
decreases-reading l = left (length l.bytes) l.lexer.place l.next
