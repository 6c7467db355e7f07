use Rattle.std.proofs.Common.{◌≡◌, length, reverse, drop}
use Rattle.and_circles.specs.Walks.{nearest_cell}
use Rattle.and_circles.proofs.walk.Walk.nearest_cell.Given as goal

abbrev pub invariant-loop-visit : goal.invariant-loop-visit
invariant-loop-visit l = nearest_cell (drop (length l.yielded) (reverse l.self.visits.items)) ≡ nearest_cell (reverse l.self.visits.items)
