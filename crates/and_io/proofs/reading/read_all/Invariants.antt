use Rattle.std.proofs.Common.{◌≡◌, ◌+◌, ◌-◌, ◌≤◌, ◌++◌, length}
use Rattle.and_io.specs.Flow.{Stays, Takes}
use Rattle.and_io.proofs.reading.read_all.Given as goal

abbrev pub invariant-reading : goal.invariant-reading
invariant-reading g l =
    record {
      within : length l.text ≤ l.limit + 1;
      gave : g.S.Source.taken l.source ≡ g.S.Source.taken l.initial.source ++ l.text;
      taken : Takes (g.S.Source.left l.initial.source) (g.S.Source.left l.source) l.text;
      count : g.S.Source.faults l.initial.source ≤ g.S.Source.faults l.source;
      stays : Stays g.S.Source.last (g.S.Source.faults l.initial.source) (g.S.Source.faults l.source);
    }

abbrev pub decreases-reading : goal.decreases-reading
decreases-reading g l = l.limit + 1 - length l.text
