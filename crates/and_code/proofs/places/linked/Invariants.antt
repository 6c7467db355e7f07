use Rattle.and_code.specs.Places.{IsLeft}
use Rattle.and_code.proofs.places.linked.Given as goal

abbrev pub invariant-loop-behind : goal.invariant-loop-behind
invariant-loop-behind l = IsLeft l.reductions l.node l.item l.behind

abbrev pub decreases-loop-behind : goal.decreases-loop-behind
decreases-loop-behind l = l.behind
