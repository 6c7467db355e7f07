use Rattle.std.proofs.Common.{◌≡◌}
use Rattle.and_teams.proofs.turning.is_led.Given as goal

abbrev pub invariant-resting : goal.invariant-resting
invariant-resting g l =
    (l.team.number ≡ l.fn.team.number) × (l.team.pass ≡ l.fn.team.pass) × (l.team.found ≡ l.fn.team.found)
    × (l.team.stack ≡ l.fn.team.stack) × (l.team.left ≡ l.fn.team.left)
