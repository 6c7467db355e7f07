use Rattle.std.proofs.Common.{IfOk, subst}
use Rattle.and_determinacy.specs.Candidates.{IsJudged}
use Rattle.and_branch_parts.specs.Branches.{Held}
use Rattle.and_branch.proofs.branch.Branch.judge_next.Goals as goal

pub returns-clause-judged : goal.returns-clause-judged
returns-clause-judged g c =
    subst (λ (b : Held). IfOk c.judge.result (IsJudged g.N.Naming.program b.row c.args.goal)) c.self.view_is c.judge.ensures.judged
