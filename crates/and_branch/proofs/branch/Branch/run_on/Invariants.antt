use Rattle.std.specs.Prelude.{◌≡◌, ◌≤◌, ◌<◌, ◌+◌, ◌-◌, ◌⊎◌}
use Rattle.and_model.specs.Programs.{clause_at, clause_weight}
use Rattle.and_branch_parts.specs.Branches.{SameKey}
use Rattle.and_branch_parts.specs.Rounds.{StepsOn, IsAtMost}
use Rattle.and_branch.specs.Bodies.{with_next, IsCallInHand}
use Rattle.and_branch.proofs.branch.Branch.run_on.Given as goal

abbrev pub invariant-calls : goal.invariant-calls
invariant-calls g l = record {
  few : l.taken < l.left;
  same : SameKey l.initial.self l.self;
  call : IsCallInHand g.N.Naming.program l.self l.call l.node.0;
  last : IsAtMost g.N.Naming.program l.self.row l.call l.by.0;
  steps : StepsOn g.N.Naming.program (with_next l.fn.goal l.initial.self) (with_next l.call l.self);
  grown : (l.initial.self.used < l.self.used) ⊎ ((l.self.used ≡ l.initial.self.used)
      × (l.self.used + clause_weight (clause_at g.N.Naming.program.program l.by.0) ≤ l.self.limit));
}

abbrev pub decreases-calls : goal.decreases-calls
decreases-calls g l = l.left - l.taken
