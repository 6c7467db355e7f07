use Rattle.std.proofs.Common.{◌≡◌, ◌-◌, ◌≤◌, ◌++◌, length, take}
use Rattle.and_io.specs.Flow.{Stays}
use Rattle.and_io.proofs.writing.write_all_counted.Given as goal

abbrev pub invariant-writing : goal.invariant-writing
invariant-writing g l =
    record {
      within : l.written ≤ length l.bytes;
      gained : g.K.Sink.given l.sink ≡ g.K.Sink.given l.initial.sink ++ take l.written l.bytes;
      count : g.K.Sink.faults l.initial.sink ≤ g.K.Sink.faults l.sink;
      stays : Stays g.K.Sink.last (g.K.Sink.faults l.initial.sink) (g.K.Sink.faults l.sink);
    }

abbrev pub decreases-writing : goal.decreases-writing
decreases-writing g l = length l.bytes - l.written
