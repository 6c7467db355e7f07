use Rattle.std.proofs.Common.{length}
use Rattle.and_reader.proofs.Going.{left}
use Rattle.and_reader.proofs.Onward.{IsGoingTo}
use Rattle.and_reader.proofs.reading.Reader.read_to.Given as goal

abbrev pub invariant-reading : goal.invariant-reading
invariant-reading l = IsGoingTo l.bytes l.self l.lexer l.next l.end

abbrev pub decreases-reading : goal.decreases-reading
decreases-reading l = left (length l.bytes) l.lexer.place l.next
