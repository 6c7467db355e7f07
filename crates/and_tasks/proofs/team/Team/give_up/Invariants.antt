use Rattle.std.proofs.Common.{◌≡◌, length}
use Rattle.and_tasks.specs.Working.{Has}
use Rattle.and_tasks.proofs.team.Team.give_up.Given as goal

-- The team has what is still on the stack.
abbrev pub invariant-loop-task : goal.invariant-loop-task
invariant-loop-task g l = Has g.N.Naming.program l.shared.tree.now l.self.pass l.self.stack.items × (l.self.number ≡ l.fn.self.number)

abbrev pub decreases-loop-task : goal.decreases-loop-task
decreases-loop-task g l = length l.self.stack.items
