use Rattle.and_branch_parts.proofs.WaysGone.{Goes, turns_left}
use Rattle.and_branch.proofs.branch.Branch.go_round.Given as goal

abbrev pub invariant-goals : goal.invariant-goals
invariant-goals g l = Goes g.N.Naming.program l.initial.self l.self l.way l.changed l.share l.heavy

abbrev pub decreases-goals : goal.decreases-goals
decreases-goals g l = turns_left l.way l.self
