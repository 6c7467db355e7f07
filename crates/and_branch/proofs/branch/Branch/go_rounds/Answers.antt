use Rattle.std.proofs.Common.{refl, subst, arith}
use Rattle.and_branch_parts.specs.Rounds.{RoundIs}
use Rattle.and_branch_parts.specs.declared.rounds.Round.{Round}
use Rattle.and_branch_parts.proofs.LookedGoals.{no_steps, steps_then, still_branch}
use Rattle.and_branch_parts.proofs.GoalsRun.{branch_fits}
use Rattle.and_branch_parts.proofs.RoundsKept.{fewer_rounds, same_then}
use Rattle.and_branch.proofs.branch.Branch.go_rounds.Goals as goal

pub rounds-init : goal.rounds-init
rounds-init g c = record {
  same = record { key = refl; limit = refl };
  steps = no_steps g.N.Naming.program c.args.self.now;
  branch = c.requires.branch;
  some = c.requires.first;
}

pub rounds-preserved : goal.rounds-preserved
rounds-preserved g c =
    let P = g.N.Naming.program in record {
      same = same_then c.args.self.now c.rounds.self c.go_round.new.self c.rounds.invariant.same c.go_round.ensures.same;
      steps = steps_then P c.args.self.now c.rounds.self c.go_round.new.self c.rounds.invariant.steps c.in_ok-go_round.ensures.steps;
      branch = still_branch P c.rounds.self c.go_round.new.self c.in_ok-go_round.ensures.steps c.rounds.invariant.branch;
      some = let e = c.saturating_mul-most.ensures in let s = c.rounds.invariant.some in omega arith;
    }

pub rounds-smaller : goal.rounds-smaller
rounds-smaller g c =
    let P = g.N.Naming.program in
    let came = subst (λ (r : Round). RoundIs P c.rounds.self c.go_round.new.self r) c.in-Changed.is c.in_ok-go_round.ensures.came_to in
    let branch = still_branch P c.rounds.self c.go_round.new.self c.in_ok-go_round.ensures.steps c.rounds.invariant.branch in
    fewer_rounds c.rounds.self c.go_round.new.self (branch_fits P c.go_round.new.self branch.0 branch.1) c.go_round.ensures.same.limit came

pub returns-in-Still-clause-steps : goal.returns-in-Still-clause-steps
returns-in-Still-clause-steps g c =
    steps_then g.N.Naming.program c.args.self.now c.rounds.self c.go_round.new.self c.rounds.invariant.steps c.in_ok-go_round.ensures.steps

pub returns-in-Failed-clause-steps : goal.returns-in-Failed-clause-steps
returns-in-Failed-clause-steps g c =
    steps_then g.N.Naming.program c.args.self.now c.rounds.self c.go_round.new.self c.rounds.invariant.steps c.in_ok-go_round.ensures.steps
