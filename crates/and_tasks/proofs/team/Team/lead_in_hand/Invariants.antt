use Rattle.std.proofs.Common.{◌≡◌, None}
use Rattle.and_tasks.specs.Working.{IsLeftInHand}
use Rattle.and_tasks.proofs.team.Team.lead_in_hand.Given as goal

-- What is left of the last branch is in hand.
abbrev pub invariant-leading : goal.invariant-leading
invariant-leading g l =
    IsLeftInHand g.N.Naming.program l.shared.tree.now l.self.pass l.self.found l.self.stack.items l.hand
    × (l.self.number ≡ l.fn.self.number) × (l.self.left ≡ None)
