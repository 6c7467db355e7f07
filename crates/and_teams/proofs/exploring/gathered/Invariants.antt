use Rattle.std.proofs.Common.{◌≡◌, ◌++◌, List, length}
use Rattle.and_teams.specs.Ended.{AllFound}
use Rattle.and_teams.specs.declared.work.Worked.{Worked}
use Rattle.and_teams.proofs.exploring.gathered.Given as goal

abbrev pub invariant-loop-done : goal.invariant-loop-done
invariant-loop-done g l = (ended : List (Worked _)) × (l.fn.worked.items ≡ l.worked.items ++ ended) × AllFound ended l.found l.passes

abbrev pub decreases-loop-done : goal.decreases-loop-done
decreases-loop-done g l = length l.worked.items
