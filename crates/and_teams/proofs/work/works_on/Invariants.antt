use Rattle.std.proofs.Common.{◌≡◌}
use Rattle.and_tasks.specs.Working.{IsAtWork}
use Rattle.and_teams.proofs.work.works_on.Given as goal

abbrev pub invariant-working : goal.invariant-working
invariant-working g l =
    IsAtWork g.N.Naming.program l.shared.tree.now l.team.pass l.team.found l.team.stack.items l.team.left
    × (l.team.number ≡ l.fn.team.number)
