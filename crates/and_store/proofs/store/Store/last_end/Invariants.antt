use Rattle.std.proofs.Common.{◌≤◌, take}
use Rattle.and_store.specs.Ended.{LastEnds, passes_of}
use Rattle.and_store.proofs.store.Store.last_end.Given as goal

abbrev pub invariant-loop-i : goal.invariant-loop-i
invariant-loop-i g l = LastEnds l.self.about (passes_of (take l.i l.passes-2)) l.end × (l.end ≤ l.self.about.words)
