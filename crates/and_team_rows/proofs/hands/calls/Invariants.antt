use Rattle.std.proofs.Common.{◌≡◌}
use Rattle.and_goals.specs.Hands.{seat_of}
use Rattle.and_team_rows.proofs.hands.calls.Given as goal

abbrev pub invariant-loop-line : goal.invariant-loop-line
invariant-loop-line l = (seat_of l.first ≡ seat_of l.initial.first) × (seat_of l.second ≡ seat_of l.initial.second)
