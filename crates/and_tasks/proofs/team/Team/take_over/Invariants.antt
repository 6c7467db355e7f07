use Rattle.std.proofs.Common.{◌≡◌}
use Rattle.and_tasks.specs.Working.{IsAtWork}
use Rattle.and_tasks.proofs.team.Team.take_over.Given as goal

abbrev pub invariant-loop-turn : goal.invariant-loop-turn
invariant-loop-turn g l =
    IsAtWork g.N.Naming.program l.shared.tree.now l.self.pass l.self.found l.self.stack.items l.self.left
    × (l.self.number ≡ l.fn.self.number)
