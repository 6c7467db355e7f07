use Rattle.std.proofs.Common.{arith, ap}
use Rattle.and_goals.proofs.Moves.{forks}
use Rattle.and_goals.proofs.hand.Hand.guest.Goals as goal

pub another-requires : goal.another-requires
another-requires c =
    let is = ap (λ h. h.own.parts) c.self.view_is in
    let more = c.requires in
    forks _ _ (omega arith)
