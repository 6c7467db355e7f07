use Rattle.std.proofs.Common.{reverse}
use Rattle.and_circles.specs.Walks.{IsWalking, AreEnded, Stays, visits_left}
use Rattle.and_circles.proofs.walk.Walk.descend.Given as goal

abbrev pub invariant-loop-visit : goal.invariant-loop-visit
invariant-loop-visit g l = record {
  walking : IsWalking g.N.Naming.program l.cells l.fn.root l.self;
  stays : Stays l.fn.self l.self;
  ended : AreEnded g.N.Naming.program l.cells l.self;
}

abbrev pub decreases-loop-visit : goal.decreases-loop-visit
decreases-loop-visit g l = visits_left g.N.Naming.program l.self.marks (reverse l.self.visits.items)
