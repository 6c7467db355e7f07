use Rattle.std.proofs.Common.{◌≡◌, ◌∷◌, reverse}
use Rattle.and_visit.specs.Walking.{IsReady, One, places_of, turns}
use Rattle.and_visit.proofs.walker.Walker.walk.Given as goal

abbrev pub invariant-walking : goal.invariant-walking
invariant-walking g l = record {
  ready : IsReady g.N.Naming.program l.self.limit (g.V.Visitor.has_seen l.self.visitor) (reverse l.self.stack.items) l.hand;
  limit : l.self.limit ≡ l.initial.self.limit;
  asks : g.V.Visitor.asks l.self.visitor ≡ g.V.Visitor.asks l.initial.self.visitor;
}

abbrev pub decreases-walking : goal.decreases-walking
decreases-walking g l = turns l.self.limit (One l.hand.depth l.hand.branch ∷ places_of (reverse l.self.stack.items))
