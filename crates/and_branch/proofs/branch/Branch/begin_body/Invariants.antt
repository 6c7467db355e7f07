use Rattle.std.specs.Prelude.{◌≡◌, ◌≤◌, ◌-◌, false, length}
use Rattle.and_branch_parts.specs.Branches.{SameKey}
use Rattle.and_branch_parts.specs.Rounds.{StepsOn}
use Rattle.and_branch.specs.Bodies.{with_body}
use Rattle.and_branch.proofs.branch.Branch.begin_body.Given as goal

abbrev pub invariant-places : goal.invariant-places
invariant-places g l = record {
  within : l.place ≤ length l.items;
  live : l.self.is_failed ≡ false;
  used : l.self.used ≡ l.initial.self.used;
  same : SameKey l.initial.self l.self;
  steps : StepsOn g.N.Naming.program (with_body g.N.Naming.program l.clause.0 l.node 0 l.initial.self)
      (with_body g.N.Naming.program l.clause.0 l.node l.place l.self);
}

abbrev pub decreases-places : goal.decreases-places
decreases-places g l = length l.items - l.place
