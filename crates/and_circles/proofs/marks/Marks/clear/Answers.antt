use Rattle.std.proofs.Common.{ℕ, ◌≡◌, ◌+◌, map, sym, subst, rules}
use Rattle.and_circles.specs.Marked.{mark_in, AreUnmarked}
use Rattle.and_circles.proofs.Stamps.{next_round}
use Rattle.and_circles.proofs.marks.Marks.clear.Goals as goal

pub returns-in-Some : goal.returns-in-Some
returns-in-Some c =
    let next : c.in-Some.round ≡ c.self.inside.round + 1 = search rules in
    subst (λ (round : ℕ). AreUnmarked (map (mark_in round) c.self.inside.stamps.items)) (sym next)
    (next_round c.self.inside.stamps.items c.self.inside.round c.self.invariant.1)
