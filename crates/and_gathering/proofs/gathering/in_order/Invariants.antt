use Rattle.std.proofs.Common.{◌≤◌, ◌++◌, length}
use Rattle.std.specs.Prelude.{IsPermutation}
use Rattle.and_program.specs.Loaded.{program_of}
use Rattle.and_gathering.specs.Gathering.{AreOf, AreTiled, all_made}
use Rattle.and_gathering.proofs.Stepping.{made_from}
use Rattle.and_gathering.proofs.gathering.in_order.Given as goal

abbrev pub invariant-loop-next : goal.invariant-loop-next
invariant-loop-next l = record {
  tiled : AreTiled (program_of l.loaded) l.used l.row.made l.row.end;
  fits : l.row.end ≤ l.limit;
  steps : AreOf l.row.steps.items l.row.made;
  made : IsPermutation (all_made l.tolds) (l.row.steps.items ++ made_from l.places.items l.tolds);
}

abbrev pub decreases-loop-next : goal.decreases-loop-next
decreases-loop-next l = length (made_from l.places.items l.tolds)
