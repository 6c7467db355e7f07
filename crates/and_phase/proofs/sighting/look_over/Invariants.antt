use Rattle.std.proofs.Common.{◌≤◌}
use Rattle.and_branch.specs.Branches.{IsBranch}
use Rattle.and_phase.specs.Sighting.{IsLater}
use Rattle.and_phase.proofs.sighting.look_over.Given as goal

abbrev pub invariant-looks : goal.invariant-looks
invariant-looks g l = record {
  later : IsLater g.N.Naming.program l.initial.branch l.branch;
  branch : IsBranch g.N.Naming.program l.branch;
  some : 1 ≤ l.next;
}
